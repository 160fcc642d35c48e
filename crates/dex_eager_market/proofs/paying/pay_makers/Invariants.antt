use Rattle.std.proofs.Common.{ℕ, ◌≡◌, ◌+◌, ◌-◌, ◌*◌, ◌^◌, ◌≤◌, drop, length, map}
use Rattle.std.specs.List.{All}
use Rattle.dex_eager.specs.Eager.{with_fills}
use Rattle.dex_eager.specs.Slots.{maker_fills}
use Rattle.dex_types.specs.Meeting.{meet}
use Rattle.dex_fills.specs.Taker.{demand, taking}
use Rattle.dex_eager_market.specs.Accounts.{IsWithin, entry_of}
use Rattle.dex_eager_market.specs.Foreseen.{IsModest}
use Rattle.dex_eager_market.proofs.paying.pay_makers.Given as goal

abbrev pub invariant-orders : goal.invariant-orders
invariant-orders l = record {
  paid : with_fills (maker_fills (meet l.side (taking l.taker) (demand l.left) (drop l.place l.orders)).events) (map entry_of l.accounts.items)
      ≡ with_fills (maker_fills (meet l.side (taking l.taker) (demand l.fn.want) l.orders).events) (map entry_of l.initial.accounts.items);
  modest : IsModest l.side l.taker.sizes (demand l.left);
  matches : l.left.matches ≤ l.fn.want.matches;
  small : (bound : ℕ) → All (IsWithin bound) l.initial.accounts.items → All (IsWithin (bound + (l.fn.want.matches - l.left.matches) * 2 ^ 65)) l.accounts.items;
  within : l.place ≤ length l.orders;
}

abbrev pub decreases-orders : goal.decreases-orders
decreases-orders l = length l.orders - l.place
