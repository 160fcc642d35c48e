use Rattle.std.proofs.Common.{◌≡◌, ℕ, List, ◌∷◌, sym, ap, ◌∙◌}
use Rattle.dex_ring.specs.Ring.{events_of, popped}
use Rattle.dex_ring.proofs.PopLaw.{events_of-first}
use Rattle.dex_types.specs.Accounts.{PlainAccount}
use Rattle.dex_types.specs.QueuedEvent.{QueuedEvent, decoded_event}
use Rattle.dex_accounts.specs.Owners.{changed_at}
use Rattle.dex_crank.specs.PaidBytes.{CrankBytes, crank_of, paid_first, paid_in}
use Rattle.dex_crank.proofs.PartLaws.{has_owner, head_of, pending-count}
use Rattle.dex_crank.proofs.crank.pay_first.Goals as goal

same_first : (x y : QueuedEvent) (xs ys : List QueuedEvent) → x ∷ xs ≡ y ∷ ys → x ≡ y
same_first x y xs ys same = cc

pub pay_owner-requires : goal.pay_owner-requires
pay_owner-requires g c =
    has_owner (crank_of c.args.queue.now (g.A.OrdersAccounts.held c.args.accounts.now)) c.requires.market.0 c.requires.market.1
    (decoded_event c.take_first-event.result) (events_of c.take_first-event.new.bytes) c.take_first-event.ensures.event

pub returns-clause-bytes : goal.returns-clause-bytes
unfolding paid_first
returns-clause-bytes g c =
    let queue = c.args.queue.now in
    let accounts = g.A.OrdersAccounts.held c.args.accounts.now in
    let event = decoded_event c.take_first-event.result in
    let same : event ≡ head_of queue =
    same_first event (head_of queue) (events_of c.take_first-event.new.bytes) (events_of (popped queue))
    (sym c.take_first-event.ensures.event ∙ events_of-first queue c.requires.market.1.queue (pending-count queue c.requires.market.1.queue c.requires.pending)) in
    let made : List ℕ → List PlainAccount → CrankBytes = λ q a. record { queue = q; accounts = a } in
    ap (λ (q : List ℕ). made q (g.A.OrdersAccounts.held c.pay_owner.new.self)) c.take_first-event.ensures.bytes
    ∙ ap (made (popped queue)) (c.pay_owner.ensures.held ∙ ap (λ (e : QueuedEvent). changed_at e.owner (paid_in e) accounts) same)
