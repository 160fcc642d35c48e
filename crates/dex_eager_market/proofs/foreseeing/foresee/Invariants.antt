use Rattle.std.proofs.Common.{◌≡◌, ◌-◌, ◌*◌, ◌^◌, ◌≤◌, false, drop, length}
use Rattle.dex_types.specs.Meeting.{meet}
use Rattle.dex_fills.specs.Taker.{demand, taking}
use Rattle.dex_eager_market.specs.Foreseen.{IsModest}
use Rattle.dex_eager_market.proofs.Meetings.{IsCarried}
use Rattle.dex_eager_market.proofs.foreseeing.foresee.Given as goal

abbrev pub invariant-orders : goal.invariant-orders
invariant-orders l = record {
  carried : IsCarried l.taker.sizes.coin (meet l.side (taking l.taker) (demand l.fn.want) l.orders)
      (meet l.side (taking l.taker) (demand l.met.want) (drop l.met.gone l.orders)) l.met.sums;
  modest : IsModest l.side l.taker.sizes (demand l.met.want);
  matches : l.met.want.matches ≤ l.fn.want.matches;
  base : l.met.sums.base ≤ (l.fn.want.matches - l.met.want.matches) * 2 ^ 64;
  pc : l.met.sums.pc ≤ (l.fn.want.matches - l.met.want.matches) * 2 ^ 64;
  rebates : l.met.sums.rebates ≤ (l.fn.want.matches - l.met.want.matches) * 2 ^ 64;
  within : l.met.gone ≤ length l.orders;
  part : l.met.part ≡ 0;
  crosses : l.met.crosses ≡ false;
  aborts : l.met.aborts ≡ false;
}

abbrev pub decreases-orders : goal.decreases-orders
decreases-orders l = length l.orders - l.met.gone
