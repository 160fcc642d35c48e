use Rattle.std.proofs.Common.{◌≡◌, ◌^◌, ◌%◌, length, w8, ap, ◌∙◌, sym, arith}
use Rattle.std.specs.Simd.Lanes.{mask_l, zip2}
use Rattle.std.proofs.lemmas.Simd.{tops_compared, mask_l-mod, length-zip2}
use Rattle.dex_types.proofs.SameBytes.{differ, is_empty, none_differ}
use Rattle.dex_types.proofs.addresses.has_same_bytes.Goals as goal

pub returns : goal.returns
returns c =
    let a = c.args.a.now in
    let b = c.args.b.now in
    let same : length a ≡ length b = c.told-a ∙ sym c.told-b in
    ap (λ set. is_empty (mask_l set % 2 ^ 64)) (tops_compared w8 differ a b)
    ∙ ap is_empty (mask_l-mod (zip2 differ a b) 64 (omega (arith, c.told-a, length-zip2 differ a b same)))
    ∙ none_differ a b same
