use Rattle.std.proofs.Common.{rules, ◌∷◌, [], None, refl, subst, sym, ◌∙◌, lit≤}
use Rattle.dex_fields.specs.declared.slab.TheConstants.{LEAF_COUNT, ROOT_NODE}
use Rattle.dex_slab.specs.Slab.{IsShared, free_of}
use Rattle.dex_slab.proofs.NodeWrites.{ChangesHeader-by, number_kept}
use Rattle.dex_slab.proofs.OnlyLaw.{orders-empty, shared-only, stands-empty, written-only}
use Rattle.dex_slab.proofs.PoolLaw.{used-below}
use Rattle.dex_slab.proofs.Standing.{IsSlab-from, Stands}
use Rattle.dex_slab.proofs.Times.{times-some}
use Rattle.dex_slab.proofs.remove.remove_only.Goals as goal

pub free_node-requires : goal.free_node-requires
free_node-requires c =
    let old = c.args.bytes.now in
    record {
      used = [];
      shared = subst (λ n. IsShared old (n ∷ []) (free_of old)) (sym c.get_u32-leaf.ensures) (shared-only old c.requires.slab c.requires.only);
      few = c.requires.slab.size.few;
    }

pub returns : goal.returns
returns c =
    let old = c.args.bytes.now in
    let b1 = c.free_node.new.bytes in
    let b2 = c.put_u32.new.bytes in
    let new = c.put_u64.new.bytes in
    let used = subst (λ n. IsShared old (n ∷ []) (free_of old)) (sym c.get_u32-leaf.ensures) (shared-only old c.requires.slab c.requires.only) in
    let stands : Stands new None =
    stands-empty b1 b2 new c.put_u32.ensures.bytes c.put_u64.ensures.bytes (search rules) (c.free_node.ensures.shared [] used) c.put_u64.ensures.given (search rules) in
    let written = written-only b1 b2 new c.put_u32.ensures.bytes c.put_u64.ensures.bytes in
    record {
      slab = IsSlab-from new None stands;
      orders = orders-empty new stands;
      root = number_kept b2 new LEAF_COUNT _ ROOT_NODE c.put_u64.ensures.bytes refl ∙ c.put_u32.ensures.given;
      bump = written.bump ∙ c.free_node.ensures.bump;
      freed = written.len ∙ c.free_node.ensures.freed;
      three = record {
        first = c.get_u32-leaf.result;
        second = 0;
        third = 0;
        first_within = used-below old (c.get_u32-leaf.result ∷ []) c.get_u32-leaf.result used (times-some c.get_u32-leaf.result []);
        second_within = c.requires.slab.size.some;
        third_within = c.requires.slab.size.some;
        changes = λ at in_header at_leaf at_0 at_1.
            (ChangesHeader-by b2 new LEAF_COUNT _ c.put_u64.ensures.bytes (lit≤ tt) (lit≤ tt)).places at in_header
            ∙ (ChangesHeader-by b1 b2 ROOT_NODE _ c.put_u32.ensures.bytes (lit≤ tt) (lit≤ tt)).places at in_header
            ∙ c.free_node.ensures.places at in_header at_leaf;
      };
    }
