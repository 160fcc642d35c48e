use Rattle.std.proofs.Common.{map, take}
use Rattle.dex_world.proofs.Common.{market_accounts_of, named_of, names, row_of}
use Rattle.dex_bank.proofs.OpenRooms.{AreRowsOf, markets_at, on, wallets_at}
use Rattle.dex_bank.proofs.counting.row_counts.Given as goal

abbrev pub invariant-loop-i : goal.invariant-loop-i
invariant-loop-i l = record {
  markets : AreRowsOf on (markets_at (map market_accounts_of l.start.markets.items)) (take l.i (map row_of l.rows)) l.markets.items;
  wallets : AreRowsOf names (wallets_at (map named_of l.start.wallets.items)) (take l.i (map row_of l.rows)) l.wallets.items;
}
