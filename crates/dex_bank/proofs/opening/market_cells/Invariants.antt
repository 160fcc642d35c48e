use Rattle.std.proofs.Common.{◌≡◌, List, length, map}
use Rattle.dex_world.proofs.Common.{PlainRow, market_accounts_of}
use Rattle.dex_bank.proofs.Common.{market_opened}
use Rattle.dex_bank.specs.Opened.{market_rooms}
use Rattle.dex_bank.proofs.opening.market_cells.Given as goal

abbrev pub invariant-loop-accounts : goal.invariant-loop-accounts
invariant-loop-accounts l = record {
  place : l.place ≡ length l.yielded;
  cells : (rows : List PlainRow) → l.fn.rooms ≡ market_rooms rows (map market_accounts_of l.fn.markets.items)
      → l.cells.items ≡ map (market_opened rows) (map market_accounts_of l.yielded);
}
