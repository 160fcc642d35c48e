-- What an event pays, in the funds of its owner's account.
use Rattle.std.specs.Prelude.{◌+◌, ◌-◌, ◌≤◌}
use Rattle.dex_orders.specs.declared.amounts.Funds.{Funds}
use Rattle.dex_orders.specs.OrdersAccount.{FundsFit}
use Rattle.dex_types.specs.declared.terms.Side.TheVariants.{Bid, Ask}
use Rattle.dex_types.specs.Fees.{referrer_part}
use Rattle.dex_types.specs.Owed.{leaving_as}
use Rattle.dex_types.specs.QueuedEvent.{EventKind, MakerFill, TakerFill, PlainOut, ReleasingOut, QueuedEvent}
use Rattle.dex_types.specs.Side.{Coin, Pc}
use Rattle.dex_crank.specs.declared.kinds.Kind.{Kind}
use Rattle.dex_crank.specs.declared.kinds.Kind.TheVariants as kinds

-- the kind of event of the definitions that a kind of the code stands for
abbrev pub told_kind : Kind → EventKind
told_kind (kinds.MakerFill side) = MakerFill side
told_kind (kinds.TakerFill side) = TakerFill side
told_kind (kinds.PlainOut side) = PlainOut side
told_kind (kinds.ReleasingOut side) = ReleasingOut side

-- the funds after an event of this kind was paid
abbrev pub paid_funds : EventKind → QueuedEvent → Funds → Funds
paid_funds (MakerFill Bid) event funds = record funds {
  coin_free = funds.coin_free + event.released;
  coin_total = funds.coin_total + event.released;
  pc_free = funds.pc_free + event.fee_or_rebate;
  pc_total = funds.pc_total - event.paid;
}
paid_funds (MakerFill Ask) event funds = record funds {
  coin_total = funds.coin_total - event.paid;
  pc_free = funds.pc_free + event.released;
  pc_total = funds.pc_total + event.released;
}
paid_funds (TakerFill side) event funds = record funds { referrer = funds.referrer + referrer_part event.fee_or_rebate }
paid_funds (PlainOut side) event funds = funds
paid_funds (ReleasingOut Bid) event funds = record funds { pc_free = funds.pc_free + event.released }
paid_funds (ReleasingOut Ask) event funds = record funds { coin_free = funds.coin_free + event.released }

-- what the event takes off a total is in it, and the funds after it are in order and fit their fields
pub record FitsFunds (kind : EventKind) (event : QueuedEvent) (funds : Funds) : Type 0 where
  pub coin_leaving : leaving_as Coin kind event ≤ funds.coin_total
  pub pc_leaving : leaving_as Pc kind event ≤ funds.pc_total
  pub fit : FundsFit (paid_funds kind event funds)
