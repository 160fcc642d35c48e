use Rattle.std.proofs.Common.{rules, ◌≡◌, length, ap, sym, ◌∙◌, arith}
use Rattle.dex_fields.proofs.Writing.{put_mid-is_with_bytes}
use Rattle.dex_ring.specs.EventBytes.{event_bytes}
use Rattle.dex_ring.specs.Ring.{event_field}
use Rattle.dex_ring.proofs.places.write_event.Goals as goal

size : (c : goal.After-slice_known-2-1) → length (event_bytes c.args.event.now) ≡ 88
size c =
    let kept : length c.put_event.new.bytes ≡ 88 = search rules in
    ap length (sym c.put_event.ensures.written) ∙ kept

pub returns-clause-bytes : goal.returns-clause-bytes
returns-clause-bytes c =
    put_mid-is_with_bytes c.args.bytes.now (event_field c.args.place) (event_bytes c.args.event.now) _ _ c.requires (size c) (omega arith) c.put_event.ensures.written

pub returns-clause-size : goal.returns-clause-size
returns-clause-size c = size c
