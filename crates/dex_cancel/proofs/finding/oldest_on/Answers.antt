use Rattle.std.proofs.Common.{ap, sym, ◌∙◌, arith}
use Rattle.dex_types.specs.Cancel.{oldest, orders_of}
use Rattle.dex_laws.specs.Walks.{orders_from}
use Rattle.dex_cancel.specs.Finding.{maybe_resting, older_of}
use Rattle.dex_cancel.proofs.WalkSteps.{stepped, on, oldest-named, oldest-unnamed, older_of-older}
use Rattle.dex_cancel.proofs.finding.oldest_on.Goals as goal
use Rattle.dex_cancel.proofs.finding.oldest_on.Goals.{then-has_client, else-has_client}

pub orders-smaller : goal.orders-smaller
orders-smaller g c =
    let orders = g.B.SideRead.orders c.args.book.now in
    let held = g.met.B.SideRead.is_book_side c.args.book.now c.requires.holds in
    let step = stepped _ _ orders _ _ _ held c.orders.invariant.reached c.in-Some.is c.after-next.ensures in
    rw step.0 (omega arith)

pub orders-preserved : goal.orders-preserved
orders-preserved g c =
    let orders = g.B.SideRead.orders c.args.book.now in
    let held = g.met.B.SideRead.is_book_side c.args.book.now c.requires.holds in
    let step = stepped _ _ orders _ _ _ held c.orders.invariant.reached c.in-Some.is c.after-next.ensures in
    let left = orders_from c.after-next.result orders in
    let before = maybe_resting c.orders.found in
    let later = oldest c.args.client (orders_of c.args.account c.args.side left) in
    let here = ap (λ os. older_of before (oldest c.args.client (orders_of c.args.account c.args.side os))) (sym step.0) ∙ c.orders.invariant.found in
    record {
      found = elim c.if-has_client.branch [
        | then-has_client w ↦
            ap (λ f. older_of (maybe_resting f) later) w.found-is
            ∙ ap (λ f. older_of f later) w.older_of-found.ensures
            ∙ older_of-older before (on c.args.side c.in-Some.order) later
            ∙ sym (ap (older_of before) (oldest-named c.args.account c.args.side c.args.client c.in-Some.order left (sym c.has_client.ensures ∙ w.if-has_client.true)))
            ∙ here
        | else-has_client w ↦
            ap (λ f. older_of (maybe_resting f) later) w.found-is
            ∙ sym (ap (older_of before) (oldest-unnamed c.args.account c.args.side c.args.client c.in-Some.order left (sym c.has_client.ensures ∙ w.if-has_client.false)))
            ∙ here
      ];
      reached = step.1;
    }
