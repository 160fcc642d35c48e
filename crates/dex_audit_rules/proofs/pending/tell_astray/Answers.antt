use Rattle.std.proofs.Common.{◌<◌, ◌++◌, [], length, map, sym, ap, ◌∙◌, arith, take}
use Rattle.std.proofs.lemmas.List.{get_or-map, length-map}
use Rattle.dex_types.specs.declared.orders.Event.{Event}
use Rattle.dex_types.specs.QueuedEvent.{QueuedEvent, decoded_event}
use Rattle.dex_types.specs.Soundness.{counts_final}
use Rattle.dex_audit_rules.specs.Slots.{astray, astray_behind}
use Rattle.dex_totals.proofs.FinalLaws.{finals-few, finals-more}
use Rattle.dex_audit_rules.proofs.ListLaws.{told-more}
use Rattle.dex_audit_rules.proofs.pending.tell_astray.Goals as goal

pub count-requires : goal.count-requires
count-requires c = λ held.
    omega (arith, c.loop-number.invariant.finals held, finals-few (map decoded_event c.args.events.now) held c.loop-number.number, length-map c.args.events.now decoded_event)

pub loop-number-preserved : goal.loop-number-preserved
loop-number-preserved c =
    let d : Event = record { flags = 0; slot = 0; tier = 0; released = 0; paid = 0; fee_or_rebate = 0; id = 0; owner = record { 0 = [] }; client = 0 } in
    let events = map decoded_event c.args.events.now in
    let number = c.loop-number.number in
    let event = get_or-map decoded_event c.args.events.now number d (decoded_event d) (omega arith) in
    let lt : number < length events = omega (arith, length-map c.args.events.now decoded_event) in
    record {
      told =
          told-more (astray c.args.owners.now events c.args.queue) events number (decoded_event d)
          c.args.found.now.items c.loop-number.found.items c.tell_event.new.found.items lt c.loop-number.invariant.told
          (c.in_ok-tell_event.ensures (take number events) c.loop-number.invariant.finals
          ∙ ap (λ (e : QueuedEvent). c.loop-number.found.items ++ astray_behind c.args.owners.now (take number events) c.args.queue number e) (sym event));
      finals = λ held.
          omega (arith, c.in_ok-count.ensures held, c.loop-number.invariant.finals held, ap (counts_final held) (sym event), finals-more held events number (decoded_event d) lt);
    }
