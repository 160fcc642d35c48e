use Rattle.std.proofs.Common.{refl, sym, subst, inl}
use Rattle.dex_orders.specs.OrdersAccount.{IsBlank}
use Rattle.dex_orders.proofs.BlankLaw.{IsBlank-zeros}
use Rattle.dex_make.specs.MarketBytes.{blank_orders}
use Rattle.dex_make.proofs.market.make_orders.Goals as goal

pub returns-clause-bytes : goal.returns-clause-bytes
unfolding blank_orders
returns-clause-bytes c = c.in_ok-bytes.ensures

pub returns-clause-blank : goal.returns-clause-blank
returns-clause-blank c = subst IsBlank (sym c.in_ok-bytes.ensures) (IsBlank-zeros 3228 refl)

pub returns-clause-accepted : goal.returns-clause-accepted
returns-clause-accepted c = inl (returns-clause-blank c)
