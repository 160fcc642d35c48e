-- Rows that are counted anew leave the same.
use Rattle.std.proofs.Common.{◌≡◌, ℕ, Bool, true, false, eqb, cond, if◌then◌else◌, List, [], ◌∷◌, Option, Some, map, refl, sym, ap, ◌∙◌, subst, ⊎_elim}
use Rattle.dex_world.proofs.Common.{Address, AllZip, Entry, Market, MarketState, Movement, PlainAccount, PlainMarketAccounts, PlainRow, Seen, Transfers, WalletEntry, WalletSeen, WalletState, World, act_item, cases_Bool, entry_by, eq-eqb, eqb-false, eqb-true, fold_items, is_same, map_push, market_acted, markets_acted, movement_of, names, ne_eqb, row_step, wallet_acted, wallet_at, wallet_entry_by, wallet_moved}
use Rattle.dex_parts.proofs.Common.{IsLeftIn, IsReplayOf, Item, PlainMarketJournal, PlainOutcome, PlainScript, PlainWalletJournal, items_of, map-map, market_at, market_state, start_world, wallet_state, with_amount, with_amounts, world_after}
use Rattle.dex_world.specs.Groups.{alone, grouped, joined, map_group, members}
use Rattle.dex_world.proofs.GroupLaws.{grouped-map}
use Rattle.dex_parts.proofs.AlikeWorlds.{ActsAlike, cond-of, item-acts}
use Rattle.dex_parts.proofs.LeftLaws.{StandIn}
use Rattle.dex_parts.specs.Numbered.{KeepsApart, entry_with, market_journal_with, outcome_with, row_with, script_with, wallet_entry_with, wallet_journal_with}

module _ (f : ℕ → ℕ) where
  -- a world whose entries have new numbers
  abbrev market_with : MarketState → MarketState
  market_with state = record state { entries = map (entry_with f) state.entries }

  abbrev wallet_with : WalletState → WalletState
  wallet_with state = record state { entries = map (wallet_entry_with f) state.entries }

  abbrev world_with : World → World
  world_with world = record world { markets = map market_with world.markets; wallets = map wallet_with world.wallets }

  -- ---- what a row finds

  market-found : (address : Address) (states : List MarketState) → market_at address (map market_with states) ≡ market_at address states
  market-found address [] = refl
  market-found address (state ∷ states) =
      ap (λ (o : Option Market). if is_same address state.market.listing.address then Some state.market else o) (market-found address states)

  wallet-found : (address : Address) (states : List WalletState) → wallet_at address (map wallet_with states) ≡ wallet_at address states
  wallet-found address [] = refl
  wallet-found address (state ∷ states) =
      ap (λ (o : Option WalletSeen). if is_same address state.seen.address then Some state.seen else o) (wallet-found address states)

  -- ---- what it does

  markets-act : (row : PlainRow) (seen : Seen) (states : List MarketState)
      → markets_acted (row_with f row) seen (map market_with states) ≡ map market_with (markets_acted row seen states)
  markets-act row seen [] = refl
  markets-act row seen (state ∷ states) =
      let here : Bool = is_same row.market state.market.listing.address in
      let step = row_step row seen state.market in
      ap (λ (entries : List Entry). cond here (record { market = step.market; entries = entries } ∷ map market_with states)
      (market_with state ∷ markets_acted (row_with f row) seen (map market_with states)))
      (sym (map_push (entry_with f) state.entries (entry_by row seen step.reply step.transfers)))
      ∙ ap (λ (others : List MarketState). cond here (market_with (market_acted row seen state) ∷ map market_with states) (market_with state ∷ others))
      (markets-act row seen states)
      ∙ cond-of (map market_with) here (market_acted row seen state ∷ states) (state ∷ markets_acted row seen states)

  wallet-acts : (row : PlainRow) (seen : Seen) (t : Transfers) (state : WalletState)
      → wallet_acted (row_with f row) seen t (wallet_with state) ≡ wallet_with (wallet_acted row seen t state)
  wallet-acts row seen t state =
      let move : Movement = movement_of seen t state.seen.address in
      let named : Bool = names row state.seen.address in
      ap (λ (entries : List WalletEntry). cond named (record { seen = (wallet_moved row move state).seen; entries = entries }) (wallet_with state))
      (sym (map_push (wallet_entry_with f) state.entries (wallet_entry_by row move)))
      ∙ cond-of wallet_with named (wallet_moved row move state) state

  wallets-act : (row : PlainRow) (seen : Seen) (t : Transfers) (states : List WalletState)
      → map (wallet_acted (row_with f row) seen t) (map wallet_with states) ≡ map wallet_with (map (wallet_acted row seen t) states)
  wallets-act row seen t [] = refl
  wallets-act row seen t (state ∷ states) = λ i. wallet-acts row seen t state i ∷ wallets-act row seen t states i

  acts-alike : (row : PlainRow) → ActsAlike f (map market_with) (map wallet_with) row
  acts-alike row = record {
    market = market-found row.market;
    wallet = λ address named. wallet-found address;
    markets = markets-act row;
    wallets = wallets-act row;
  }

  items-act : (items : List Item) (world : World) → fold_items (map (map_group (row_with f)) items) (world_with world) ≡ world_with (fold_items items world)
  items-act [] world = refl
  items-act (item ∷ items) world =
      ap (fold_items (map (map_group (row_with f)) items))
      (item-acts f (map market_with) (map wallet_with) (λ row. Unit {0}) (λ row all. acts-alike row) (λ row all. tt) item world (λ k d within. tt))
      ∙ items-act items (act_item item world)

  -- ---- the items of rows

  module _ (apart : KeepsApart f) where
    same-test : (a b : ℕ) → eqb (f a) (f b) ≡ eqb a b
    same-test a b =
        ⊎_elim
        (λ (same : eqb a b ≡ true). eq-eqb (f a) (f b) (ap f (eqb-true a b same)) ∙ sym same)
        (λ (other : eqb a b ≡ false). ne_eqb (f a) (f b) (λ same. eqb-false a b other (apart a b same)) ∙ sym other)
        (cases_Bool (eqb a b))

    abbrev old_key : PlainRow → ℕ
    old_key row = row.number

    abbrev new_key : PlainRow → ℕ
    new_key row = f row.number

    joined-same : (row : PlainRow) (groups : List Item) → joined new_key row groups ≡ joined old_key row groups
    joined-same row [] = refl
    joined-same row (group ∷ groups) =
        ap (λ (b : Bool). cond b (record { first = row; others = members group } ∷ groups) (alone row ∷ group ∷ groups)) (same-test row.number group.first.number)

    grouped-same : (rows : List PlainRow) → grouped new_key rows ≡ grouped old_key rows
    grouped-same [] = refl
    grouped-same (row ∷ rows) = joined-same row (grouped new_key rows) ∙ ap (joined old_key row) (grouped-same rows)

    items-with : (rows : List PlainRow) → items_of (map (row_with f) rows) ≡ map (map_group (row_with f)) (items_of rows)
    items-with rows = grouped-map (λ (row : PlainRow). row.number) (row_with f) rows ∙ ap (map (map_group (row_with f))) (grouped-same rows)

    -- ---- what is left

    start-with : (script : PlainScript) → start_world script ≡ world_with (start_world script)
    start-with script = λ i. record (start_world script) {
      markets = sym (map-map market_state market_with script.start.markets) i;
      wallets = sym (map-map wallet_state wallet_with script.start.wallets) i;
    }

    ends-with : (script : PlainScript) → world_after (script_with f script) (items_of (map (row_with f) script.rows)) ≡ world_with (world_after script (items_of script.rows))
    ends-with script =
        ap (λ (items : List Item). fold_items items (start_world script)) (items-with script.rows)
        ∙ ap (fold_items (map (map_group (row_with f)) (items_of script.rows))) (start-with script)
        ∙ items-act (items_of script.rows) (start_world script)

    stand-with : (all : List PlainMarketAccounts) (states : List MarketState) → AllZip StandIn all states → AllZip StandIn all (map market_with states)
    stand-with [] [] stand = tt
    stand-with (accounts ∷ all) (state ∷ states) stand = (stand.0, stand-with all states stand.1)
    stand-with _ _ stand = absurd stand

    amounts-with : (accounts : List PlainAccount) (states : List WalletState) → with_amounts accounts states ≡ with_amounts accounts (map wallet_with states)
    amounts-with (account ∷ accounts) (state ∷ states) =
        ap (λ (rest : List PlainAccount). record account { bytes = with_amount account.bytes state.seen.balance } ∷ rest) (amounts-with accounts states)
    amounts-with _ _ = refl

    left-with : (script : PlainScript) (world : World) (outcome : PlainOutcome) → IsLeftIn script world outcome
        → IsLeftIn (script_with f script) (world_with world) (outcome_with f outcome)
    left-with script world outcome left = record {
      start = record {
        mints = left.start.mints;
        srm = left.start.srm;
        msrm = left.start.msrm;
        wallets = left.start.wallets;
        markets = left.start.markets;
        market_journals = map-map (market_journal_with f) (λ (journal : PlainMarketJournal). journal.address) outcome.markets ∙ left.start.market_journals;
        wallet_journals = map-map (wallet_journal_with f) (λ (journal : PlainWalletJournal). journal.address) outcome.wallets ∙ left.start.wallet_journals;
      };
      accepted = left.accepted;
      markets =
          let of_journal : PlainMarketJournal → List Entry = λ (journal : PlainMarketJournal). journal.entries in
          let of_state : MarketState → List Entry = λ (state : MarketState). state.entries in
          map-map (market_journal_with f) of_journal outcome.markets
          ∙ sym (map-map of_journal (map (entry_with f)) outcome.markets)
          ∙ ap (map (map (entry_with f))) left.markets
          ∙ map-map of_state (map (entry_with f)) world.markets
          ∙ sym (map-map market_with of_state world.markets);
      wallets =
          let of_journal : PlainWalletJournal → List WalletEntry = λ (journal : PlainWalletJournal). journal.entries in
          let of_state : WalletState → List WalletEntry = λ (state : WalletState). state.entries in
          map-map (wallet_journal_with f) of_journal outcome.wallets
          ∙ sym (map-map of_journal (map (wallet_entry_with f)) outcome.wallets)
          ∙ ap (map (map (wallet_entry_with f))) left.wallets
          ∙ map-map of_state (map (wallet_entry_with f)) world.wallets
          ∙ sym (map-map wallet_with of_state world.wallets);
      stand = stand-with outcome.accounts.markets world.markets left.stand;
      amounts = left.amounts ∙ amounts-with script.start.wallets world.wallets;
      balances = left.balances ∙ sym (map-map wallet_with (λ (state : WalletState). state.seen.balance) world.wallets);
    }

pub replay-with : (f : ℕ → ℕ) → KeepsApart f → (script : PlainScript) (outcome : PlainOutcome) → IsReplayOf script outcome → IsReplayOf (script_with f script) (outcome_with f outcome)
replay-with f apart script outcome replay =
    subst (λ (world : World). IsLeftIn (script_with f script) world (outcome_with f outcome)) (sym (ends-with f apart script))
    (left-with f apart script (world_after script (items_of script.rows)) outcome replay)
