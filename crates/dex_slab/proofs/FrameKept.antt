-- What keeps all bytes outside of the header and the nodes, and that an account of a side stays one.
use Rattle.std.proofs.Common.{◌≡◌, ℕ, ◌+◌, ◌-◌, ◌<◌, List, length, inl, inr, sym, ap, ◌∙◌, arith, lit≤}
use Rattle.std.proofs.lemmas.Grind.{same_number_lists}
use Rattle.dex_fields.specs.declared.field.Field.{Field}
use Rattle.dex_fields.specs.declared.frame.TheConstants.{FRONT}
use Rattle.dex_fields.specs.declared.leaf_node.TheConstants.{QUANTITY}
use Rattle.dex_fields.specs.declared.slab.TheConstants.{ACCOUNT_FLAGS}
use Rattle.dex_fields.specs.Bytes.{AreApart, ChangesOnly, IsWithin, bytes_in, number_in, number_of_bytes}
use Rattle.dex_fields.specs.Frame.{end_field}
use Rattle.dex_fields.proofs.Places.{get_or-bytes_in}
use Rattle.dex_fields.proofs.Reading.{length-bytes_in}
use Rattle.dex_types.specs.declared.terms.Side.{Side}
use Rattle.dex_slab.specs.Changes.{ChangesLotsOf, ChangesThreeNodes, IsBeside, KeepsFrame, header, slab_field}
use Rattle.dex_slab.specs.Nodes.{in_node, node_field, nodes_within}
use Rattle.dex_slab.specs.Slab.{IsSlab, nodes_in, tree_of}
use Rattle.dex_slab.specs.StandsFor.{IsSideAccount}
use Rattle.dex_slab.proofs.PoolLaw.{used-below}

-- ---- what keeps it

-- a place outside of the slab is beside its header, and beside each node
beside_header : (size place : ℕ) → IsBeside (slab_field size) place → IsBeside header place
beside_header size place (inl before) = inl before
beside_header size place (inr behind) = inr (omega arith)

beside_node : (size node place : ℕ) → node < nodes_within size → IsBeside (slab_field size) place → IsBeside (node_field node) place
beside_node size node place lt (inl before) = inl (omega arith)
beside_node size node place lt (inr behind) = inr (omega arith)

pub frame_of_three : (old new : List ℕ) → length new ≡ length old → ChangesThreeNodes old new → KeepsFrame old new
frame_of_three old new long h = record {
  size = long;
  others = λ place beside.
      h.changes place (beside_header (length old) place beside) (beside_node (length old) h.first place h.first_within beside)
      (beside_node (length old) h.second place h.second_within beside) (beside_node (length old) h.third place h.third_within beside);
}

-- the lots of a leaf stand in its node
beside_lots : (size node place : ℕ) → node < nodes_within size → IsBeside (slab_field size) place → IsBeside (in_node node QUANTITY) place
beside_lots size node place lt (inl before) = inl (omega arith)
beside_lots size node place lt (inr behind) = inr (omega arith)

pub frame_of_lots : (id : ℕ) (old new : List ℕ) → IsSlab old → length new ≡ length old → ChangesLotsOf id old new → KeepsFrame old new
frame_of_lots id old new slab long h =
    let below : h.leaf < nodes_within (length old) = used-below old (nodes_in (tree_of old)) h.leaf slab.shared h.reached in
    record { size = long; others = λ place beside. h.changes place (beside_lots (length old) h.leaf place below beside) }

-- ---- what it keeps

beside_apart : (field part : Field) (k : ℕ) → k < field.len → AreApart field part → IsBeside part (field.at + k)
beside_apart field part k lt (inl before) = inl (omega arith)
beside_apart field part k lt (inr behind) = inr (omega arith)

-- a field that is apart from what changes holds the same bytes
pub bytes_kept : (old new : List ℕ) (field part : Field) → length new ≡ length old → ChangesOnly part old new → AreApart field part → IsWithin field old
    → bytes_in new field ≡ bytes_in old field
bytes_kept old new field part long kept apart within =
    let size_new : length (bytes_in new field) ≡ field.len = length-bytes_in new field (omega (arith, within, long)) in
    let size_old : length (bytes_in old field) ≡ field.len = length-bytes_in old field within in
    same_number_lists (bytes_in new field) (bytes_in old field) (size_new ∙ sym size_old)
    (λ k lt.
    let small : k < field.len = omega (arith, lt, size_new) in
    get_or-bytes_in new field k small ∙ kept (field.at + k) (beside_apart field part k small apart) ∙ sym (get_or-bytes_in old field k small))

pub number_kept : (old new : List ℕ) (field : Field) → bytes_in new field ≡ bytes_in old field → number_in new field ≡ number_in old field
unfolding number_in
number_kept old new field same = ap number_of_bytes same

-- what keeps the frame of a side's account, and is a slab again, is an account of the side again
pub account_kept : (side : Side) (old new : List ℕ) → IsSideAccount side old → KeepsFrame old new → IsSlab new → IsSideAccount side new
account_kept side old new h frame slab =
    let part : Field = slab_field (length old) in
    let some = h.slab.size.some in
    let front = bytes_kept old new FRONT part frame.size frame.others (inl (lit≤ tt)) (omega (arith, some)) in
    let flags = bytes_kept old new ACCOUNT_FLAGS part frame.size frame.others (inl (lit≤ tt)) (omega (arith, some)) in
    let end = bytes_kept old new (end_field old) part frame.size frame.others (inr (omega (arith, some))) (omega (arith, some)) in
    record {
      slab = slab;
      framed = record {
        front = front ∙ h.framed.front;
        end = ap (λ (n : ℕ). bytes_in new (record { at = n - 7; len = 7 })) frame.size ∙ end ∙ h.framed.end;
      };
      flags = number_kept old new ACCOUNT_FLAGS flags ∙ h.flags;
    }
