use Rattle.std.proofs.Common.{rules, ◌≡◌, ◌+◌, ◌-◌, length, subst, sym, ap, ◌∙◌, arith}
use borrow.Rule.Slice.PartMut.{put_mid}
use Rattle.dex_fields.specs.Bytes.{with_bytes}
use Rattle.dex_slab.specs.Changes.{ChangesNode}
use Rattle.dex_slab.specs.Nodes.{node_bytes, node_field}
use Rattle.dex_slab.proofs.NodeWrites.{ChangesNode-put, node_bytes-put, put_mid-node}
use Rattle.dex_slab.proofs.node_writes.put_node.Goals as goal

pub returns : goal.returns
returns c =
    let bytes = c.args.bytes.now in
    let start = c.start_of-start.result in
    let size : length c.args.piece.now ≡ 72 = search rules in
    let made : put_mid start (start + 72 - start) bytes c.copy_from_slice.new.self ≡ with_bytes bytes (node_field c.args.node) c.args.piece.now =
    put_mid-node bytes c.args.piece.now c.copy_from_slice.new.self c.args.node start (start + 72 - start) c.start_of-start.ensures (omega arith)
    c.copy_from_slice.ensures.after size c.requires in
    record {
      bytes = made;
      node = ap (λ l. node_bytes l c.args.node) made ∙ node_bytes-put bytes c.args.node c.args.piece.now c.requires size;
      changes = subst (ChangesNode c.args.node bytes) (sym made) (ChangesNode-put bytes c.args.node c.args.piece.now);
    }
