use Rattle.std.proofs.Common.{rules, ◌≡◌, ◌<◌, ◌≤◌, ◌^◌, ℕ, length, ap, subst, sym, ◌∙◌}
use Rattle.dex_fields.specs.declared.field.Field.{Field}
use Rattle.dex_fields.specs.declared.leaf_node.TheConstants.{QUANTITY}
use Rattle.dex_fields.specs.Bytes.{ChangesOnly, end_of, moved_by, with_number}
use Rattle.dex_slab.specs.Changes.{ChangesLotsOf}
use Rattle.dex_slab.specs.Nodes.{in_node}
use Rattle.dex_slab.proofs.FrameKept.{frame_of_lots}
use Rattle.dex_slab.specs.Slab.{IsSlab, resting}
use Rattle.dex_slab.proofs.FoundLaw.{rests-in, rests-some}
use Rattle.dex_slab.proofs.LotsTree.{leaf_key, leaf_reached, leaf_tag, leaf_within, orders_lotted, slab_lotted}
use Rattle.dex_slab.proofs.WalkLaw.{rooted}
use Rattle.dex_slab.proofs.set_lots.set_order_lots.Goals as goal

pub find_leaf-found-requires-clause-some : goal.find_leaf-found-requires-clause-some
find_leaf-found-requires-clause-some c = rests-some c.args.bytes.now c.args.id c.requires.rests

pub find_leaf-found-requires-clause-rests : goal.find_leaf-found-requires-clause-rests
find_leaf-found-requires-clause-rests c =
    let old = c.args.bytes.now in
    rests-in old c.args.id (rooted old c.requires.slab (rests-some old c.args.id c.requires.rests)) c.requires.rests

pub put_u64-requires-clause-within : goal.put_u64-requires-clause-within
put_u64-requires-clause-within c =
    let old = c.args.bytes.now in
    let r = rooted old c.requires.slab (rests-some old c.args.id c.requires.rests) in
    let found = c.find_leaf-found.result in
    let fits : c.args.lots < 2 ^ 64 = search rules in
    let place : c.moved_by.result ≡ in_node found.leaf QUANTITY = c.moved_by.ensures ∙ ap (λ (n : ℕ). moved_by n QUANTITY) c.start_of.ensures in
    subst (λ (f : Field). end_of f ≤ length old) (sym place)
    (leaf_within old c.requires.slab r c.args.id found.leaf c.args.lots found.parent c.find_leaf-found.ensures c.requires.lots fits)

pub returns : goal.returns
returns c =
    let old = c.args.bytes.now in
    let new = c.put_u64.new.bytes in
    let lots = c.args.lots in
    let r = rooted old c.requires.slab (rests-some old c.args.id c.requires.rests) in
    let found = c.find_leaf-found.result in
    let f = c.find_leaf-found.ensures in
    let fits : lots < 2 ^ 64 = search rules in
    let place : c.moved_by.result ≡ in_node found.leaf QUANTITY = c.moved_by.ensures ∙ ap (λ (n : ℕ). moved_by n QUANTITY) c.start_of.ensures in
    let made : new ≡ with_number old (in_node found.leaf QUANTITY) lots = c.put_u64.ensures.bytes ∙ ap (λ (f : Field). with_number old f lots) place in
    let lots_of : ChangesLotsOf c.args.id old new = record {
      leaf = found.leaf;
      reached = leaf_reached old c.requires.slab r c.args.id found.leaf lots found.parent f c.requires.lots fits;
      tag = leaf_tag old c.requires.slab r c.args.id found.leaf lots found.parent f c.requires.lots fits;
      key = leaf_key old c.requires.slab r c.args.id found.leaf lots found.parent f c.requires.lots fits;
      changes = subst (λ (f : Field). ChangesOnly f old new) place c.put_u64.ensures.others;
    } in
    record {
      slab = subst IsSlab (sym made) (slab_lotted old c.requires.slab r c.args.id found.leaf lots found.parent f c.requires.lots fits);
      orders = λ side. ap (resting side) made ∙ orders_lotted old c.requires.slab r c.args.id found.leaf lots found.parent f c.requires.lots fits side;
      eight = lots_of;
      frame = frame_of_lots c.args.id old new c.requires.slab (search rules) lots_of;
    }
