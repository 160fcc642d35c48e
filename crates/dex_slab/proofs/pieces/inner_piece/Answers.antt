use Rattle.std.proofs.Common.{rules, ◌≡◌, subst, sym}
use Rattle.dex_fields.specs.Bytes.{with_number}
use Rattle.dex_fields.specs.Writes.{wrote}
use Rattle.dex_slab.specs.Held.{HasInnerPadding, IsInner}
use Rattle.dex_slab.proofs.PieceLaw.{inner-padding, inner-wrote, inner_writes, zeros}
use Rattle.dex_slab.proofs.pieces.inner_piece.Goals as goal

pub returns : goal.returns
unfolding with_number
returns c =
    let b = c.args.branch in
    let made : c.put_u32-4.new.bytes ≡ wrote zeros (inner_writes b.prefix b.key b.first b.second) = search rules in
    record {
      inner = subst (λ l. IsInner l b.prefix b.key b.first b.second) (sym made)
          (inner-wrote b.prefix b.key b.first b.second (search rules) (search rules) (search rules) (search rules));
      padding = subst HasInnerPadding (sym made) (inner-padding b.prefix b.key b.first b.second);
    }
