use Rattle.std.proofs.Common.{◌≡◌, List, length, map}
use Rattle.dex_world.proofs.Common.{PlainRow, named_of}
use Rattle.dex_bank.proofs.Common.{All, IsWalletCell, wallet_opened}
use Rattle.dex_bank.specs.Opened.{wallet_rooms}
use Rattle.dex_bank.proofs.opening.wallet_cells.Given as goal

abbrev pub invariant-loop-account : goal.invariant-loop-account
invariant-loop-account l = record {
  place : l.place ≡ length l.yielded;
  cells : (rows : List PlainRow) → l.fn.rooms ≡ wallet_rooms rows (map named_of l.fn.wallets.items)
      → l.cells.items ≡ map (wallet_opened rows) (map named_of l.yielded);
  kept : All IsWalletCell l.cells.items;
}
