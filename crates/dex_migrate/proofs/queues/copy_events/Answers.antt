use Rattle.std.proofs.Common.{rules, ◌≡◌, ℕ, suc, ◌+◌, ◌++◌, ◌∷◌, [], List, take, get_or, sym, ap, ◌∙◌, arith}
use Rattle.std.proofs.Math.Seq.{take-suc}
use Rattle.dex_ring.specs.Appended.{pushed_all}
use Rattle.dex_ring.specs.Ring.{events_of, pushed}
use Rattle.dex_ring.proofs.AppendLaws.{decoded-encoded, pushed_all-pushed_all}
use Rattle.dex_types.specs.QueuedEvent.{QueuedEvent, decoded_event, encoded_event}
use Rattle.dex_migrate.proofs.queues.copy_events.Goals as goal

pub events-preserved : goal.events-preserved
events-preserved c =
    let all : List QueuedEvent = events_of c.args.from.now.bytes.now in
    let index : ℕ = c.events.index in
    let event : QueuedEvent = decoded_event c.at-event.result in
    let here : get_or all index event ≡ event =
    sym (ap decoded_event (c.at-event.ensures.event event) ∙ decoded-encoded (get_or all index event)) in
    let encoded : c.at-event.result ≡ encoded_event event =
    c.at-event.ensures.event event ∙ ap encoded_event here in
    let next : index + 1 ≡ suc index = omega arith in
    let longer : take (index + 1) all ≡ take index all ++ event ∷ [] =
    ap (λ (n : ℕ). take n all) next ∙ take-suc all index event (search rules) ∙ ap (λ (e : QueuedEvent). take index all ++ e ∷ []) here in
    record {
      bytes = c.push.ensures.bytes
          ∙ ap (λ b. pushed b c.at-event.result) c.events.invariant.bytes
          ∙ ap (pushed (pushed_all (take index all) c.args.to.now.bytes.now)) encoded
          ∙ pushed_all-pushed_all (take index all) (event ∷ []) c.args.to.now.bytes.now
          ∙ ap (λ (l : List QueuedEvent). pushed_all l c.args.to.now.bytes.now) (sym longer);
      events = ap (λ r. r.events) c.push.ensures.list ∙ ap (λ (l : List QueuedEvent). l ++ event ∷ []) c.events.invariant.events ∙ sym longer;
      capacity = ap (λ r. r.capacity) c.push.ensures.list ∙ c.events.invariant.capacity;
      accepted = c.push.ensures.accepted;
      place = c.push.ensures.place ∙ c.events.invariant.place;
    }
