-- No journal is longer than there are rows that name its market or its wallet: it has one entry of each of them.
use Rattle.std.proofs.Common.{◌≡◌, ◌≤◌, Bool, List, length, map, sym, ap, ◌∙◌, subst, arith}
use Rattle.dex_world.proofs.Common.{Address, Asked, Call, Entry, MarketState, PlainAccount, PlainMarketAccounts, PlainRow, Reply, WalletState, World, filter, is_same, length-map, names}
use Rattle.dex_replay.proofs.Common.{All, Origin, PlainScript, count_by, origin_of_entry, rows_naming, rows_on}
use Rattle.std.proofs.lemmas.List.Sums.{length-filter}
use Rattle.dex_replay.proofs.Items.{row_told}
use Rattle.dex_replay.proofs.MappedLists.{All-second, length-filter_map}
use Rattle.dex_replay.proofs.RunSteps.{history-address}
use Rattle.dex_replay.proofs.Runs.{IsHistory, IsMoved, IsRun, RowReply, naming, on, origin_of, said, said_of}

-- the entries of a market are no more than the rows on it, and those of a wallet no more than the rows that name it
abbrev pub HasFew : List PlainRow → MarketState → Type 0
HasFew done state = length state.entries ≤ rows_on state.market.listing.address done

abbrev pub HasFewMoves : List PlainRow → WalletState → Type 0
HasFewMoves done state = length state.entries ≤ rows_naming state.seen.address done

pub record IsCounted (done : List PlainRow) (world : World) : Type 0 where
  pub markets : All (HasFew done) world.markets
  pub wallets : All (HasFewMoves done) world.wallets

-- as many rows pass a test as are told of that do
told-counted : (test : PlainRow → Bool) (all : List RowReply) → length (filter (λ (told : RowReply). test told.row) all) ≡ count_by test (map row_told all)
told-counted test all = sym (length-filter_map test row_told all) ∙ length-filter test (map row_told all)

module _ (script : PlainScript) (all : List RowReply) where
  few : (first : PlainMarketAccounts) (state : MarketState) → IsHistory script all first state → HasFew (map row_told all) state
  few first state is =
      let calls : length state.entries ≡ rows_on first.address (map row_told all) =
      ap (λ (l : List Entry). length l) is.entries
      ∙ length-map is.calls (λ (call : Call). call.entry)
      ∙ sym (length-map is.calls said)
      ∙ ap (λ (l : List (Asked × Reply)). length l) is.said
      ∙ length-map (on first.address all) said_of
      ∙ told-counted (λ (row : PlainRow). is_same row.market first.address) all in
      subst (λ (address : Address). length state.entries ≤ rows_on address (map row_told all)) (sym (history-address script all first state is)) (omega (arith, calls))

  few-moves : (first : PlainAccount) (state : WalletState) → IsMoved all first state → HasFewMoves (map row_told all) state
  few-moves first state is =
      let moves : length state.entries ≡ rows_naming first.address (map row_told all) =
      sym (length-map state.entries origin_of_entry)
      ∙ ap (λ (l : List Origin). length l) is.origins
      ∙ length-map (naming first.address all) origin_of
      ∙ told-counted (λ (row : PlainRow). names row first.address) all in
      subst (λ (address : Address). length state.entries ≤ rows_naming address (map row_told all)) (sym is.address) (omega (arith, moves))

  pub run-counted : (world : World) → IsRun script all world → IsCounted (map row_told all) world
  run-counted world run = record {
    markets = All-second (IsHistory script all) (HasFew (map row_told all)) few script.start.markets world.markets run.markets;
    wallets = All-second (IsMoved all) (HasFewMoves (map row_told all)) few-moves script.start.wallets world.wallets run.wallets;
  }
