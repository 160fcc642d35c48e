use Rattle.std.proofs.Common.{rules, ◌≡◌, subst, sym}
use Rattle.dex_fields.specs.Bytes.{with_number}
use Rattle.dex_fields.specs.Writes.{wrote}
use Rattle.dex_slab.specs.Held.{HasFreePadding, IsFree}
use Rattle.dex_slab.proofs.PieceLaw.{free-padding, free-wrote, free_writes, zeros}
use Rattle.dex_slab.proofs.pieces.free_piece.Goals as goal

pub returns : goal.returns
unfolding with_number
returns c =
    let made : c.put_u32-2.new.bytes ≡ wrote zeros (free_writes c.args.tag c.args.next) = search rules in
    record {
      free = subst (λ l. IsFree l c.args.tag c.args.next) (sym made) (free-wrote c.args.tag c.args.next (search rules) (search rules));
      padding = subst HasFreePadding (sym made) (free-padding c.args.tag c.args.next);
    }
