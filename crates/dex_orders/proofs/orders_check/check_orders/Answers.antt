use Rattle.std.proofs.Common.{refl, sym}
use Rattle.dex_orders.proofs.Verdicts.{none_from_orders, orders_from_none}
use Rattle.dex_orders.proofs.orders_check.check_orders.Goals as goal

pub returns-in-Some-clause-ok : goal.returns-in-Some-clause-ok
returns-in-Some-clause-ok c =
    ((λ ok. absurd cc), (λ accepted. absurd (let none = none_from_orders c.args.bytes.now accepted in cc c.in-Some.ensures)))

pub returns-in-None-clause-ok : goal.returns-in-None-clause-ok
returns-in-None-clause-ok c = ((λ ok. orders_from_none c.args.bytes.now (sym c.in-None.ensures)), (λ accepted. refl))
