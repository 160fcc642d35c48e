use Rattle.std.proofs.Common.{rules, ◌≡◌, sym, ap, ◌∙◌, subst}
use Rattle.dex_fields.specs.declared.event_queue.TheConstants.{SEQ_NUM}
use Rattle.dex_fields.specs.Bytes.{with_number}
use Rattle.dex_ring.specs.Ring.{IsEventQueue, ring_of}
use Rattle.dex_ring.proofs.CountLaw.{IsEventQueue-counted, ring_of-counted}
use Rattle.dex_ring.proofs.ring_view.RingView.set_seq_num.Goals as goal

made : (c : goal.After-put_u64) → c.put_u64.new.bytes ≡ with_number c.args.self.now.bytes.now SEQ_NUM c.args.value
made c = search rules

pub returns-clause-list : goal.returns-clause-list
returns-clause-list c = ap ring_of (made c) ∙ ring_of-counted c.args.self.now.bytes.now c.requires c.args.value (search rules)

pub returns-clause-accepted : goal.returns-clause-accepted
returns-clause-accepted c = subst IsEventQueue (sym (made c)) (IsEventQueue-counted c.args.self.now.bytes.now c.requires c.args.value)
