use Rattle.std.proofs.Common.{◌≡◌, ℕ, Some, None, Option, sym, ap, ◌∙◌, subst, arith, inl, inr}
use Rattle.std.proofs.lemmas.Bool.{cases_lt}
use Rattle.dex_fields.specs.declared.event_queue.TheConstants.{COUNT}
use Rattle.dex_fields.specs.Bytes.{number_in}
use Rattle.dex_types.specs.declared.faults.AccountFault.{AccountFault}
use Rattle.dex_ring.specs.Faults.{event_rule, events_rule}
use Rattle.dex_ring.specs.Ring.{event_at}
use Rattle.dex_fields.proofs.FirstFault.{front_none, front_some}
use Rattle.dex_ring.proofs.ring_check.events_rule.Goals as goal

pub returns-in-Some : goal.returns-in-Some
unfolding events_rule
returns-in-Some c =
    let bytes = c.args.bytes.now in
    let rule : ℕ → Option AccountFault = λ k. event_rule k (event_at bytes k) in
    let number = c.loop-number.number in
    let here : rule number ≡ Some c.in-Some.fault = ap (event_rule number) (sym c.numbered_event-event.ensures) ∙ sym c.in-Some.ensures in
    sym (front_some rule (number_in bytes COUNT) number c.in-Some.fault (omega (arith, c.get_u64-count.ensures)) c.loop-number.invariant here)

pub loop-number-preserved : goal.loop-number-preserved
loop-number-preserved c k lt =
    let bytes = c.args.bytes.now in
    let number = c.loop-number.number in
    elim (cases_lt k number) [
      | inl before ↦ c.loop-number.invariant k before
      | inr past ↦
          let same : number ≡ k = omega arith in
          subst (λ n. event_rule n (event_at bytes n) ≡ None) same (ap (event_rule number) (sym c.numbered_event-event.ensures) ∙ sym c.in_default.ensures)
    ]

pub returns : goal.returns
unfolding events_rule
returns c =
    let bytes = c.args.bytes.now in
    sym (front_none (λ k. event_rule k (event_at bytes k)) (number_in bytes COUNT) (λ k lt. c.loop-number.invariant k (omega (arith, c.get_u64-count.ensures))))
