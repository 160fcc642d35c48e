-- An account breaks no rule exactly where it is an event queue.
use Rattle.std.proofs.Common.{◌≡◌, ℕ, ◌<◌, ◌≤◌, if◌then◌else◌, eqb, leb, ltb, List, length, Option, Some, None, refl, arith}
use Rattle.std.proofs.lemmas.Bool.{eq-eqb, eqb-true, le-leb, le-ltb, leb-true, lt-ltb, ltb-false, ltb-true}
use Rattle.std.specs.Option.{option_or}
use Rattle.dex_fields.specs.declared.event_queue.TheConstants.{ACCOUNT_FLAGS, COUNT, HEAD}
use Rattle.dex_fields.specs.Bytes.{number_in}
use Rattle.dex_fields.proofs.FrameLaw.{framed_from_mapped, mapped_from_framed}
use Rattle.dex_fields.proofs.Rules.{cond_holds, cond_none, none_or, or_none}
use Rattle.dex_types.specs.declared.faults.AccountFault.{AccountFault}
use Rattle.dex_types.specs.declared.orders.Event.{Event}
use Rattle.dex_types.specs.AccountFaults.{flags_fault, size_fault}
use Rattle.dex_ring.specs.EventBytes.{IsQueued, are_event_flags}
use Rattle.dex_ring.specs.Faults.{count_rule, event_fault, event_rule, events_rule, flags_rule, frame_rule, head_rule, header_rule, queue_fault, ring_fault, size_rule, told}
use Rattle.dex_ring.specs.Ring.{IsEventQueue, capacity_of, event_at}
use Rattle.dex_fields.proofs.FirstFault.{each_front_none, front_none}

-- ---- one event

queued_from_rule : (number : ℕ) (e : Event) → event_rule number e ≡ None → IsQueued e
queued_from_rule number e h =
    let tier : Option AccountFault = if ltb e.tier 7 then None else Some (event_fault number e.tier) in
    let slot : Option AccountFault = if ltb e.slot 128 then tier else Some (event_fault number e.slot) in
    let first = cond_holds (are_event_flags e.flags) (event_fault number e.flags) slot h in
    let second = cond_holds (ltb e.slot 128) (event_fault number e.slot) tier first.1 in
    let third = cond_holds (ltb e.tier 7) (event_fault number e.tier) None second.1 in
    record {
      flags = eqb-true _ e.flags first.0;
      slot = ltb-true e.slot 128 second.0;
      tier = ltb-true e.tier 7 third.0;
    }

rule_from_queued : (number : ℕ) (e : Event) → IsQueued e → event_rule number e ≡ None
rule_from_queued number e queued = rw (eq-eqb _ e.flags queued.flags, lt-ltb e.slot 128 queued.slot, lt-ltb e.tier 7 queued.tier) refl

-- ---- the size, the header and the events

size_from_rule : (bytes : List ℕ) → size_rule bytes ≡ None → (132 ≤ length bytes) × (length bytes ≤ 5767211)
size_from_rule bytes h =
    let most : Option AccountFault = if ltb 5767211 (length bytes) then Some (size_fault (length bytes) 5767211) else None in
    let first = cond_none (ltb (length bytes) 132) (size_fault (length bytes) 132) most h in
    let second = cond_none (ltb 5767211 (length bytes)) (size_fault (length bytes) 5767211) None first.1 in
    (ltb-false (length bytes) 132 first.0, ltb-false 5767211 (length bytes) second.0)

rule_from_size : (bytes : List ℕ) → 132 ≤ length bytes → length bytes ≤ 5767211 → size_rule bytes ≡ None
rule_from_size bytes least most = rw (le-ltb (length bytes) 132 least, le-ltb 5767211 (length bytes) most) refl

-- what the rules of the header say
record IsHeader (bytes : List ℕ) : Type 0 where
  framed : frame_rule bytes ≡ None
  flags : number_in bytes ACCOUNT_FLAGS ≡ 17
  head : number_in bytes HEAD < capacity_of bytes
  count : number_in bytes COUNT ≤ capacity_of bytes

header_from_rule : (bytes : List ℕ) → header_rule bytes ≡ None → IsHeader bytes
unfolding header_rule
header_from_rule bytes h =
    let counted = or_none (option_or (option_or (frame_rule bytes) (flags_rule bytes)) (head_rule bytes)) (count_rule bytes) h in
    let headed = or_none (option_or (frame_rule bytes) (flags_rule bytes)) (head_rule bytes) counted.0 in
    let flagged = or_none (frame_rule bytes) (flags_rule bytes) headed.0 in
    record {
      framed = flagged.0;
      flags = eqb-true (number_in bytes ACCOUNT_FLAGS) 17 (cond_holds (eqb (number_in bytes ACCOUNT_FLAGS) 17) (flags_fault (number_in bytes ACCOUNT_FLAGS) 17) None flagged.1).0;
      head = ltb-true (number_in bytes HEAD) (capacity_of bytes) (cond_holds (ltb (number_in bytes HEAD) (capacity_of bytes)) (ring_fault HEAD.at (number_in bytes HEAD) (capacity_of bytes)) None headed.1).0;
      count = leb-true (number_in bytes COUNT) (capacity_of bytes) (cond_holds (leb (number_in bytes COUNT) (capacity_of bytes)) (ring_fault COUNT.at (number_in bytes COUNT) (capacity_of bytes)) None counted.1).0;
    }

rule_from_header : (bytes : List ℕ) → IsEventQueue bytes → header_rule bytes ≡ None
unfolding header_rule
rule_from_header bytes queue =
    let flags : flags_rule bytes ≡ None = rw (eq-eqb (number_in bytes ACCOUNT_FLAGS) 17 queue.flags) refl in
    let head : head_rule bytes ≡ None = rw (lt-ltb (number_in bytes HEAD) (capacity_of bytes) queue.head) refl in
    let count : count_rule bytes ≡ None = rw (le-leb (number_in bytes COUNT) (capacity_of bytes) queue.count) refl in
    none_or (option_or (option_or (frame_rule bytes) (flags_rule bytes)) (head_rule bytes)) (count_rule bytes)
    (none_or (option_or (frame_rule bytes) (flags_rule bytes)) (head_rule bytes) (none_or (frame_rule bytes) (flags_rule bytes) (mapped_from_framed told bytes queue.framed) flags) head)
    count

events_from_rule : (bytes : List ℕ) → events_rule bytes ≡ None → (number : ℕ) → number < number_in bytes COUNT → IsQueued (event_at bytes number)
unfolding events_rule
events_from_rule bytes h number lt =
    let rule : ℕ → Option AccountFault = λ k. event_rule k (event_at bytes k) in
    queued_from_rule number (event_at bytes number) (each_front_none rule (number_in bytes COUNT) h number lt)

rule_from_events : (bytes : List ℕ) → ((number : ℕ) → number < number_in bytes COUNT → IsQueued (event_at bytes number)) → events_rule bytes ≡ None
unfolding events_rule
rule_from_events bytes queued =
    let rule : ℕ → Option AccountFault = λ k. event_rule k (event_at bytes k) in
    front_none rule (number_in bytes COUNT) (λ k lt. rule_from_queued k (event_at bytes k) (queued k lt))

-- ---- the account

pub queue_from_none : (bytes : List ℕ) → queue_fault bytes ≡ None → IsEventQueue bytes
unfolding queue_fault
queue_from_none bytes h =
    let sized = or_none (size_rule bytes) (option_or (header_rule bytes) (events_rule bytes)) h in
    let ruled = or_none (header_rule bytes) (events_rule bytes) sized.1 in
    let size = size_from_rule bytes sized.0 in
    let header = header_from_rule bytes ruled.0 in
    record {
      least = size.0;
      most = size.1;
      framed = framed_from_mapped told bytes (omega (arith, size.0)) header.framed;
      flags = header.flags;
      head = header.head;
      count = header.count;
      events = events_from_rule bytes ruled.1;
    }

pub none_from_queue : (bytes : List ℕ) → IsEventQueue bytes → queue_fault bytes ≡ None
unfolding queue_fault
none_from_queue bytes queue =
    none_or (size_rule bytes) (option_or (header_rule bytes) (events_rule bytes)) (rule_from_size bytes queue.least queue.most)
    (none_or (header_rule bytes) (events_rule bytes) (rule_from_header bytes queue) (rule_from_events bytes queue.events))
