use Rattle.std.proofs.Common.{List, ap, ◌∙◌}
use Rattle.std.specs.List.{filter}
use Rattle.dex_types.specs.declared.orders.Order.{Order}
use Rattle.dex_types.specs.declared.terms.Lots.{Lots}
use Rattle.dex_types.specs.declared.terms.Side.TheVariants.{Bid, Ask}
use Rattle.dex_types.specs.Owed.{is_order_of, order_lock}
use Rattle.dex_types.specs.Totals.{total}
use Rattle.dex_totals.specs.Sums.{capped}
use Rattle.dex_totals.proofs.OwnLaws.{total-own}
use Rattle.dex_audit_rules.proofs.totals.locked_of.Goals as goal

pub returns-in-Coin : goal.returns-in-Coin
returns-in-Coin c = λ m is.
    rw c.in-Coin.is
    (c.sum_locked.ensures ∙ ap (λ (l : List Order). capped (total (order_lock Ask c.args.own.now.book.sizes) l)) (c.of.ensures ∙ is.asks c.args.owner)
    ∙ ap (λ (sizes : Lots). capped (total (order_lock Ask sizes) (filter (is_order_of c.args.owner) m.asks))) is.of.sizes
    ∙ ap capped (total-own (is_order_of c.args.owner) (order_lock Ask m.listing.sizes) m.asks))

pub returns-in-Pc : goal.returns-in-Pc
returns-in-Pc c = λ m is.
    rw c.in-Pc.is
    (c.sum_locked-in-Pc.ensures ∙ ap (λ (l : List Order). capped (total (order_lock Bid c.args.own.now.book.sizes) l)) (c.of-in-Pc.ensures ∙ is.bids c.args.owner)
    ∙ ap (λ (sizes : Lots). capped (total (order_lock Bid sizes) (filter (is_order_of c.args.owner) m.bids))) is.of.sizes
    ∙ ap capped (total-own (is_order_of c.args.owner) (order_lock Bid m.listing.sizes) m.bids))
