-- What items leave in an order that keeps the lanes is a run of the script: lawful, of sound markets, and with each
-- mint conserved.
use Rattle.std.proofs.Common.{◌≡◌, ℕ, ◌+◌, cond, List, [], ◌∷◌, map, refl, sym, ap, ◌∙◌, subst, arith}
use Rattle.dex_world.proofs.Common.{Address, All-cons, All-head, All-nil, All-tail, All-weaker, AllZip, MarketState, PlainAccount, PlainMarketAccounts, WalletState, World, is_same, total}
use Rattle.dex_replay.proofs.Common.{All, AreCells, AreSound, CellsState, IsAccepted, IsLeftBy, IsOneOrder, IsReplayOf, IsRunOf, IsScript, Item, KeepsLanes, PlainOutcome, PlainScript, StandsFor, WalletWords, balance_of, closed, items_of, market_state, opened, opened_of, wallet_state, wallet_words, wallet_words-with_amount, with_amount, with_amounts, world_after, world_of}
use Rattle.dex_accounts.specs.Decoded.{market_in}
use Rattle.dex_accounts.proofs.Decoded.{AreSound-of}
use Rattle.dex_accounts.proofs.Decoded as decoded
use Rattle.dex_state.specs.Conserved.{IsConserved, amount_of, held_of, in_vaults, in_wallets}
use Rattle.dex_replay.proofs.Ends.{is-left}
use Rattle.dex_replay.proofs.Holdings.{in_market, in_wallet}
use Rattle.dex_replay.proofs.Lawfulness.{is-lawful, order-run, told}
use Rattle.dex_replay.proofs.MappedLists.{head-same, tail-same}
use Rattle.dex_replay.proofs.Orders.{own-order}
use Rattle.dex_replay.proofs.RunSteps.{history-sound}
use Rattle.dex_replay.proofs.Runs.{IsHistory, IsMoved, IsRun, RowReply}
use Rattle.dex_replay.proofs.Starts.{are-of-script, opened-opened}

-- ---- what accounts hold is what their world holds

-- what the vaults among a market's accounts hold of a mint
abbrev in_accounts : Address → PlainMarketAccounts → ℕ
in_accounts mint accounts = amount_of mint accounts.coin_vault + amount_of mint accounts.pc_vault

accounts-hold : (mint : Address) (accounts : PlainMarketAccounts) → IsAccepted accounts → in_accounts mint accounts ≡ in_market mint (market_in accounts)
unfolding market_in
accounts-hold mint accounts is =
    λ i. cond (is_same mint (is.coin_mint i)) (wallet_words accounts.coin_vault).amount 0
    + cond (is_same mint (is.pc_mint i)) (wallet_words accounts.pc_vault).amount 0

module _ (mint : Address) where
  -- markets for which accounts stand
  vaults-hold : (all : List PlainMarketAccounts) (states : List MarketState)
      → AllZip (λ (accounts : PlainMarketAccounts) (state : MarketState). StandsFor accounts state.market) all states → All IsAccepted all
      → in_vaults mint all ≡ total (λ (state : MarketState). in_market mint state.market) states
  vaults-hold [] [] stand accepted = refl
  vaults-hold (accounts ∷ all) (state ∷ states) stand accepted =
      let here : in_accounts mint accounts ≡ in_market mint state.market =
      accounts-hold mint accounts (All-head IsAccepted accounts all accepted) ∙ ap (in_market mint) (decoded.told accounts state.market stand.0) in
      omega (arith, here, vaults-hold all states stand.1 (All-tail IsAccepted accounts all accepted))
  vaults-hold _ _ stand accepted = absurd stand

  first-vaults : (all : List PlainMarketAccounts) → All IsAccepted all → in_vaults mint all ≡ total (λ (state : MarketState). in_market mint state.market) (map market_state all)
  first-vaults [] accepted = refl
  first-vaults (accounts ∷ all) accepted =
      omega (arith, accounts-hold mint accounts (All-head IsAccepted accounts all accepted), first-vaults all (All-tail IsAccepted accounts all accepted))

  first-wallets : (all : List PlainAccount) → in_wallets mint all ≡ total (in_wallet mint) (map wallet_state all)
  first-wallets [] = refl
  first-wallets (account ∷ all) = omega (arith, first-wallets all)

  -- wallets with the amounts of a world
  wallets-hold : (done : List RowReply) (firsts : List PlainAccount) (states : List WalletState) → AllZip (IsMoved done) firsts states
      → map (λ (account : PlainAccount). balance_of account.bytes) (with_amounts firsts states) ≡ map (λ (state : WalletState). state.seen.balance) states
      → in_wallets mint (with_amounts firsts states) ≡ total (in_wallet mint) states
  wallets-hold done [] [] are same = refl
  wallets-hold done (first ∷ firsts) (state ∷ states) are same =
      let bytes : List ℕ = with_amount first.bytes state.seen.balance in
      let balance : balance_of bytes ≡ state.seen.balance = head-same same in
      let own : (wallet_words bytes).mint ≡ state.seen.mint =
      ap (λ (words : WalletWords). words.mint) (wallet_words-with_amount first.bytes state.seen.balance balance) ∙ sym are.0.mint in
      let here : amount_of mint bytes ≡ in_wallet mint state =
      ap (λ (a : Address). cond (is_same mint a) (balance_of bytes) 0) own ∙ ap (λ (n : ℕ). cond (is_same mint state.seen.mint) n 0) balance in
      omega (arith, here, wallets-hold done firsts states are.1 (tail-same same))
  wallets-hold done _ _ are same = absurd are

-- ---- the outcome

module _ (script : PlainScript) (is : IsScript script) (order : List Item) (lanes : KeepsLanes script order) (outcome : PlainOutcome) (left : IsLeftBy script order outcome) where
  abbrev world : World
  world = world_after script order

  run : IsRun script (told script is order lanes) world
  run = order-run script is order lanes

  held-stays : (mint : Address) → held_of mint outcome.accounts ≡ held_of mint script.start
  held-stays mint =
      omega (
        arith,
        ap (in_wallets mint) left.amounts,
        wallets-hold mint (told script is order lanes) script.start.wallets world.wallets run.wallets
            (ap (map (λ (account : PlainAccount). balance_of account.bytes)) (sym left.amounts) ∙ left.balances),
        vaults-hold mint outcome.accounts.markets world.markets left.stand left.accepted.markets,
        run.holds mint,
        first-wallets mint script.start.wallets,
        first-vaults mint script.start.markets is.start.accepted.markets,
      )

  sound-markets : (firsts lasts : List PlainMarketAccounts) (states : List MarketState) → All AreSound firsts → AllZip (IsHistory script (told script is order lanes)) firsts states
      → AllZip (λ (accounts : PlainMarketAccounts) (state : MarketState). StandsFor accounts state.market) lasts states → All AreSound lasts
  sound-markets firsts [] states sound are stand = All-nil AreSound
  sound-markets firsts (last ∷ lasts) [] sound are stand = absurd stand
  sound-markets [] (last ∷ lasts) (state ∷ states) sound are stand = absurd are
  sound-markets (first ∷ firsts) (last ∷ lasts) (state ∷ states) sound are stand =
      All-cons AreSound last lasts
      (AreSound-of last state.market (history-sound script (told script is order lanes) first state (All-head AreSound first firsts sound) are.0) stand.0)
      (sound-markets firsts lasts states (All-tail AreSound first firsts sound) are.1 stand.1)

  left-run : IsRunOf script outcome
  left-run = record {
    lawful = is-lawful script is order lanes outcome left;
    accepted = left.accepted;
    sound = sound-markets script.start.markets outcome.accounts.markets world.markets is.start.sound run.markets left.stand;
    conserved = subst (All (IsConserved outcome.accounts)) (sym left.start.mints)
        (All-weaker (IsConserved script.start) (IsConserved outcome.accounts) (λ mint conserved. conserved ∙ sym (held-stays mint.address)) script.start.mints is.start.conserved);
  }

pub order-is-run : (script : PlainScript) (outcome : PlainOutcome) → IsScript script → IsOneOrder script outcome → IsRunOf script outcome
order-is-run script outcome is one = left-run script is one.order one.lanes outcome one.replay

-- a replay is in the order of the script's items
pub replay-in-order : (script : PlainScript) (outcome : PlainOutcome) → IsScript script → IsReplayOf script outcome → IsOneOrder script outcome
replay-in-order script outcome is replay = record { order = items_of script.rows; lanes = own-order script is.rows; replay = replay }

pub replay-is-run : (script : PlainScript) (outcome : PlainOutcome) → IsScript script → IsReplayOf script outcome → IsRunOf script outcome
replay-is-run script outcome is replay = order-is-run script outcome is (replay-in-order script outcome is replay)

-- cells on which all items of their script acted leave its replay
pub items-replay : (script : PlainScript) (start cells : CellsState) (outcome : PlainOutcome) → IsScript script → start ≡ opened script → opened_of cells ≡ opened_of start
    → AreCells cells → world_of cells ≡ world_after script (items_of script.rows) → outcome ≡ closed cells → IsReplayOf script outcome
items-replay script start cells outcome is made kept are ended left =
    subst (IsReplayOf script) (sym left)
    (is-left script cells (are-of-script script cells (kept ∙ opened-opened script start made)) are (items_of script.rows) is.start.accepted ended)
