use Rattle.std.proofs.Common.{◌≡◌, ℕ, ◌<◌, true, false, drop, get_or}
use Rattle.dex_world.proofs.Common.{is_same}
use Rattle.dex_bank.proofs.Common.{MarketCellState, is_market}
use Rattle.dex_bank.proofs.standing.market_cell_place.Given as goal

-- it is none of those that were passed, and so one of the others
abbrev pub invariant-loop-place : goal.invariant-loop-place
invariant-loop-place l = record {
  some : is_market l.address (drop l.place l.markets) ≡ true;
  before : (k : ℕ) → k < l.place → (default : MarketCellState) → is_same l.address (get_or l.markets k default).accounts.address ≡ false;
}
