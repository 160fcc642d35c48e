use Rattle.std.proofs.Common.{◌≡◌, ◌≤◌, ◌<◌, ℕ, List, get_or, length, map}
use Rattle.dex_types.specs.Rows.{row_of}
use Rattle.dex_replay.proofs.Common.{CellState, MarketCellState}
use Rattle.dex_batch.specs.Shares.{ShareState, share_at}
use Rattle.dex_batch.proofs.shares.shares.Given as goal

-- there is a share of each of the first so many piles, and the others are as they were
abbrev pub invariant-loop-number : goal.invariant-loop-number
invariant-loop-number g l = record {
  markets_long : length l.markets.items ≡ length l.fn.markets.items;
  wallets_long : length l.wallets.items ≡ length l.fn.wallets.items;
  markets_left : (k : ℕ) (d : List MarketCellState) → l.number ≤ k → get_or l.markets.items k d ≡ get_or l.fn.markets.items k d;
  wallets_left : (k : ℕ) (d : List CellState) → l.number ≤ k → get_or l.wallets.items k d ≡ get_or l.fn.wallets.items k d;
  long : length l.shares.items ≡ l.number;
  each : (k : ℕ) (d : ShareState) → k < l.number
      → get_or l.shares.items k d ≡ share_at (map row_of l.window.rows.now) l.window.numbers.now l.terms l.fn.markets.items l.fn.wallets.items k;
}
