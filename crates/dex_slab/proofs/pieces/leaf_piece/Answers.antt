use Rattle.std.proofs.Common.{rules, ◌≡◌, length, ap, subst, sym, ◌∙◌, arith}
use Rattle.dex_fields.specs.declared.leaf_node.TheConstants.{OWNER}
use Rattle.dex_fields.specs.Bytes.{with_number}
use Rattle.dex_fields.proofs.Reading.{length-bytes_in}
use Rattle.dex_fields.specs.Writes.{wrote}
use Rattle.dex_slab.specs.Held.{HasLeafPadding, IsLeaf}
use Rattle.dex_slab.proofs.PieceLaw.{IsFitting, leaf-padding, leaf-wrote, leaf_writes, zeros}
use Rattle.dex_slab.proofs.pieces.leaf_piece.Goals as goal

pub returns : goal.returns
unfolding with_number
returns c =
    let order = c.args.order in
    let made : c.put_u64-2.new.bytes ≡ wrote zeros (leaf_writes order) = search rules in
    let fits : IsFitting order = record {
      id = search rules;
      owner = ap length (sym c.put_addr.ensures.given) ∙ length-bytes_in c.put_addr.new.bytes OWNER (omega arith);
      slot = search rules;
      tier = search rules;
      lots = search rules;
      client = search rules;
    } in
    record {
      leaf = subst (λ l. IsLeaf l order) (sym made) (leaf-wrote order fits);
      padding = subst HasLeafPadding (sym made) (leaf-padding order);
    }
