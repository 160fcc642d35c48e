use Rattle.std.proofs.Common.{◌≡◌, ℕ, ◌≤◌, length, ◌∙◌, ap, arith}
use Rattle.dex_fields.proofs.EmptyLaw.{length-empty_account}
use Rattle.dex_slab.proofs.FrameKept.{account_kept}
use Rattle.dex_slab.specs.Blank.{made_size, side_flags}
use Rattle.dex_slab.specs.Nodes.{nodes_within, room_of}
use Rattle.dex_migrate.proofs.sides.fill_side.Goals as goal

within-made : (nodes : ℕ) → nodes_within (made_size nodes) ≡ nodes
within-made nodes = omega arith

pub returns : goal.returns
returns c =
    let long : 20 ≤ length c.args.bytes.now = omega (arith, c.requires.size) in
    let blank : length c.blank.new.bytes ≡ length c.args.bytes.now =
    ap (λ b. length b) c.blank.ensures.bytes ∙ length-empty_account (length c.args.bytes.now) (side_flags c.args.side) long in
    record {
      account = account_kept c.args.side c.blank.new.bytes c.copy_bytes.new.to (record { slab = c.blank.ensures.holds; framed = c.blank.ensures.framed; flags = c.blank.ensures.flags })
          c.copy_bytes.ensures.frame c.copy_bytes.ensures.holds;
      size = c.copy_bytes.ensures.frame.size ∙ blank ∙ c.requires.size;
      orders = c.copy_bytes.ensures.orders;
      room = c.copy_bytes.ensures.room ∙ c.blank.ensures.room ∙ ap (λ n. room_of (nodes_within n)) c.requires.size ∙ ap room_of (within-made c.args.nodes);
    }
