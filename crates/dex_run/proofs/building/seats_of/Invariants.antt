use Rattle.std.proofs.Common.{◌≡◌, ◌≤◌, ◌-◌, map}
use Rattle.dex_world.proofs.Common.{range_with_len}
use Rattle.dex_run.proofs.Common.{first_passes, seat_in}
use Rattle.dex_run.proofs.building.seats_of.Given as goal

abbrev pub invariant-loop-lane : goal.invariant-loop-lane
invariant-loop-lane l = record {
  some : 1 ≤ l.lane;
  markets : l.market_passes.items ≡ first_passes l.lane l.fn.markets;
  wallets : l.wallet_passes.items ≡ first_passes l.lane l.fn.wallets;
  seats : l.seats.items
      ≡ map (seat_in (record { script = l.fn.outline; markets = l.fn.markets; wallets = l.fn.wallets })) (range_with_len 1 (l.lane - 1));
}
