use Rattle.std.proofs.Common.{List, map, ap, ◌∙◌}
use Rattle.dex_types.specs.Owed.{is_event_of, kept}
use Rattle.dex_types.specs.QueuedEvent.{QueuedEvent, decoded_event}
use Rattle.dex_types.specs.Totals.{total, weighed_where}
use Rattle.dex_types.specs.Trader.{Traders}
use Rattle.std.specs.List.{filter}
use Rattle.dex_totals.specs.Held.{is_event_held}
use Rattle.dex_totals.specs.Sums.{capped, token_of}
use Rattle.dex_totals.proofs.OwnLaws.{total-both}
use Rattle.dex_audit_rules.proofs.totals.kept_of.Goals as goal

pub returns : goal.returns
returns c = λ m is.
    let weight : QueuedEvent → _ = kept (token_of c.args.token) in
    c.sum_held.ensures
    ∙ ap (λ (l : List QueuedEvent). capped (total (weighed_where (is_event_held c.args.own.now.owners) weight) l)) (ap (map decoded_event) c.of.ensures ∙ is.events c.args.owner)
    ∙ ap (λ (traders : Traders). capped (total (weighed_where (is_event_held traders) weight) (filter (is_event_of c.args.owner) m.events))) is.traders
    ∙ ap capped (total-both (is_event_of c.args.owner) (is_event_held m.traders) weight m.events)
