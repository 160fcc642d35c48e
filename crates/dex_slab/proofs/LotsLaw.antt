-- An order with other lots, in its leaf and in the tree.
use Rattle.std.proofs.Common.{◌≡◌, ◌≢◌, ℕ, ◌+◌, ◌*◌, ◌<◌, ◌≤◌, ◌^◌, true, List, length, inl, inr, refl, sym, ap, ◌∙◌, arith, lit≤}
use Rattle.std.proofs.lemmas.Bool.{cases_lt}
use Rattle.dex_fields.specs.declared.field.Field.{Field}
use Rattle.dex_fields.specs.declared.inner_node.TheConstants as inner
use Rattle.dex_fields.specs.declared.leaf_node.TheConstants as leaf_node
use Rattle.dex_fields.specs.Bytes.{bytes_in, end_of, moved_by, number_in, with_number}
use Rattle.dex_fields.proofs.Places.{AreApart-from_test, AreApart-moved_by, are_apart}
use Rattle.dex_fields.proofs.Reading.{bytes_in-bytes_in, number_in-bytes_in}
use Rattle.dex_fields.proofs.Writing.{bytes_in-with_number_apart, number_in-with_number, number_in-with_number_apart}
use Rattle.dex_types.specs.declared.orders.Order.{Order}
use Rattle.dex_slab.specs.Held.{IsLeaf}
use Rattle.dex_slab.specs.Nodes.{in_node, node_bytes, node_field, order_in}

module _ (bytes : List ℕ) (leaf lots : ℕ) (order : Order) (within : end_of (node_field leaf) ≤ length bytes) (fits : lots < 2 ^ 64)
    (is : IsLeaf (node_bytes bytes leaf) order) where
  -- the bytes with other lots in the leaf
  abbrev pub lotted : List ℕ
  lotted = with_number bytes (in_node leaf leaf_node.QUANTITY) lots

  -- every other node stays
  pub other_nodes : (n : ℕ) → n ≢ leaf → node_bytes lotted n ≡ node_bytes bytes n
  other_nodes n other =
      bytes_in-with_number_apart bytes (node_field n) (in_node leaf leaf_node.QUANTITY) lots
      (elim (cases_lt n leaf) [ inl lt ↦ inl (omega arith) | inr ge ↦ inr (omega arith) ])

  -- and so does the header
  pub header_number : (field : Field) → end_of field ≤ 45 → number_in lotted field ≡ number_in bytes field
  header_number field low = number_in-with_number_apart bytes field (in_node leaf leaf_node.QUANTITY) lots (inl (omega arith))

  -- every other field of the leaf stays
  field_number : (field : Field) → end_of field ≤ 72 → are_apart field leaf_node.QUANTITY ≡ true → number_in (node_bytes lotted leaf) field ≡ number_in (node_bytes bytes leaf) field
  field_number field low apart =
      number_in-bytes_in lotted (node_field leaf) field low
      ∙ number_in-with_number_apart bytes (moved_by (45 + leaf * 72) field) (in_node leaf leaf_node.QUANTITY) lots
      (AreApart-moved_by (45 + leaf * 72) field leaf_node.QUANTITY (AreApart-from_test field leaf_node.QUANTITY apart))
      ∙ sym (number_in-bytes_in bytes (node_field leaf) field low)

  field_bytes : (field : Field) → end_of field ≤ 72 → are_apart field leaf_node.QUANTITY ≡ true → bytes_in (node_bytes lotted leaf) field ≡ bytes_in (node_bytes bytes leaf) field
  field_bytes field low apart =
      bytes_in-bytes_in lotted (node_field leaf) field low
      ∙ bytes_in-with_number_apart bytes (moved_by (45 + leaf * 72) field) (in_node leaf leaf_node.QUANTITY) lots
      (AreApart-moved_by (45 + leaf * 72) field leaf_node.QUANTITY (AreApart-from_test field leaf_node.QUANTITY apart))
      ∙ sym (bytes_in-bytes_in bytes (node_field leaf) field low)

  lots_now : number_in (node_bytes lotted leaf) leaf_node.QUANTITY ≡ lots
  lots_now =
      number_in-bytes_in lotted (node_field leaf) leaf_node.QUANTITY (lit≤ tt)
      ∙ number_in-with_number bytes (in_node leaf leaf_node.QUANTITY) lots (omega (arith, within)) fits

  lotted_order : order_in (node_bytes lotted leaf) ≡ record (order_in (node_bytes bytes leaf)) { lots = lots }
  unfolding order_in
  lotted_order =
      let id = field_number leaf_node.KEY (lit≤ tt) refl in
      let slot = field_number leaf_node.OWNER_SLOT (lit≤ tt) refl in
      let tier = field_number leaf_node.FEE_TIER (lit≤ tt) refl in
      let client = field_number leaf_node.CLIENT_ORDER_ID (lit≤ tt) refl in
      let owner = field_bytes leaf_node.OWNER (lit≤ tt) refl in
      rw (id, slot, tier, lots_now, client, owner) refl

  -- the leaf has the order with the other lots
  pub leaf_lotted : IsLeaf (node_bytes lotted leaf) (record order { lots = lots })
  leaf_lotted = record {
    tag = field_number inner.TAG (lit≤ tt) refl ∙ is.tag;
    said = lotted_order ∙ ap (λ (o : Order). record o { lots = lots }) is.said;
  }
