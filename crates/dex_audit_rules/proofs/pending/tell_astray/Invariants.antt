use Rattle.std.proofs.Common.{◌≡◌, ◌++◌, map, take}
use Rattle.dex_types.specs.QueuedEvent.{decoded_event}
use Rattle.dex_audit_rules.specs.Lists.{numbered}
use Rattle.dex_audit_rules.specs.Slots.{astray}
use Rattle.dex_totals.specs.Tallies.{AreFinals}
use Rattle.dex_audit_rules.proofs.pending.tell_astray.Given as goal

abbrev pub invariant-loop-number : goal.invariant-loop-number
invariant-loop-number l =
    let events = map decoded_event l.events in record {
      told : l.found.items ≡ l.initial.found.items ++ numbered (astray l.owners events l.queue) 0 (take l.number events);
      finals : AreFinals l.finals (take l.number events);
    }
