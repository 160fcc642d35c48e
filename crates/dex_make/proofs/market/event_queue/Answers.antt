use Rattle.std.proofs.Common.{◌≡◌, ◌-◌, ◌/◌, ◌∙◌, ℕ, [], ap, arith, subst, sym}
use Rattle.dex_ring.specs.Ring.{IsEventQueue, Ring, ring_of}
use Rattle.dex_ring.proofs.BlankLaw.{IsEventQueue-blank_queue, ring_of-blank_queue}
use Rattle.dex_make.proofs.market.event_queue.Goals as goal

pub returns-clause-accepted : goal.returns-clause-accepted
returns-clause-accepted c =
    let made = c.made_size-size.ensures.made c.requires.some c.requires.few in
    subst IsEventQueue (sym c.in_ok-bytes.ensures) (IsEventQueue-blank_queue c.made_size-size.result made)

pub returns-clause-ring : goal.returns-clause-ring
returns-clause-ring c =
    let size = c.made_size-size.result in
    let made = c.made_size-size.ensures.made c.requires.some c.requires.few in
    let events : (size - 44) / 88 ≡ c.args.events = omega (arith, made.whole, c.made_size-size.ensures.size) in
    let ring : ℕ → Ring = λ capacity. record { events = []; capacity = capacity; seq_num = 0 } in
    ap ring_of c.in_ok-bytes.ensures ∙ ring_of-blank_queue size made ∙ ap ring events
