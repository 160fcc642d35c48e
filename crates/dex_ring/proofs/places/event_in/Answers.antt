use Rattle.std.proofs.Common.{◌≡◌, ℕ, ◌+◌, ◌-◌, ◌*◌, take, drop, ap, ◌∙◌, arith}
use Rattle.dex_fields.specs.Bytes.{bytes_in}
use Rattle.dex_ring.specs.EventBytes.{event_of}
use Rattle.dex_ring.proofs.places.event_in.Goals as goal

pub returns : goal.returns
unfolding bytes_in
returns c =
    let start : ℕ = 37 + c.args.place * 88 in
    let size : start + 88 - start ≡ 88 = omega arith in
    c.get_event.ensures ∙ ap (λ (n : ℕ). event_of (take n (drop start c.args.bytes.now))) size
