-- The 72 bytes of each kind of node, as the fields that are written over zeros.
use Rattle.std.proofs.Common.{◌≡◌, ℕ, ◌^◌, ◌<◌, List, [], ◌∷◌, length, replicate, refl, ◌∙◌, arith, lit≤}
use Rattle.dex_fields.specs.declared.free_node.TheConstants as free
use Rattle.dex_fields.specs.declared.inner_node.TheConstants as inner
use Rattle.dex_fields.specs.declared.leaf_node.TheConstants as leaf
use Rattle.dex_fields.specs.Bytes.{bytes_in, number_in}
use Rattle.dex_fields.proofs.Places.{bytes_in-replicate}
use Rattle.dex_fields.specs.Writes.{Write, bytes_write, number_write, wrote}
use Rattle.dex_fields.proofs.Wrote.{bytes_at, bytes_in-wrote, number_at}
use Rattle.dex_types.specs.declared.orders.Order.{Order}
use Rattle.dex_slab.specs.Held.{HasFreePadding, HasInnerPadding, HasLeafPadding, IsFree, IsInner, IsLeaf}
use Rattle.dex_slab.specs.Nodes.{order_in}

abbrev pub zeros : List ℕ
zeros = replicate 72 0

-- each field of the order fits its bytes
pub record IsFitting (order : Order) : Type 0 where
  pub id : order.id < 2 ^ 128
  pub owner : length order.owner.0 ≡ 32
  pub slot : order.slot < 2 ^ 8
  pub tier : order.tier < 2 ^ 8
  pub lots : order.lots < 2 ^ 64
  pub client : order.client < 2 ^ 64

abbrev pub leaf_writes : Order → List Write
leaf_writes o =
    number_write leaf.TAG 2
    ∷ number_write leaf.OWNER_SLOT o.slot
    ∷ number_write leaf.FEE_TIER o.tier
    ∷ number_write leaf.KEY o.id
    ∷ bytes_write leaf.OWNER o.owner.0
    ∷ number_write leaf.QUANTITY o.lots
    ∷ number_write leaf.CLIENT_ORDER_ID o.client
    ∷ []

-- an order by its fields
same_order : (o : Order) (id slot tier lots client : ℕ) (owner : List ℕ) → id ≡ o.id → owner ≡ o.owner.0 → slot ≡ o.slot → tier ≡ o.tier → lots ≡ o.lots
    → client ≡ o.client → (let made : Order = record { id = id; owner = record { 0 = owner }; slot = slot; tier = tier; lots = lots; client = client } in made) ≡ o
same_order o id slot tier lots client owner a b c d e f = rw (a, b, c, d, e, f) refl

pub leaf-wrote : (o : Order) → IsFitting o → IsLeaf (wrote zeros (leaf_writes o)) o
unfolding order_in
leaf-wrote o fits =
    let piece : List ℕ = wrote zeros (leaf_writes o) in
    record {
      tag = number_at zeros (leaf_writes o) 0 leaf.TAG 2 refl refl (lit≤ tt) (omega arith);
      said = same_order o (number_in piece leaf.KEY) (number_in piece leaf.OWNER_SLOT) (number_in piece leaf.FEE_TIER) (number_in piece leaf.QUANTITY)
          (number_in piece leaf.CLIENT_ORDER_ID) (bytes_in piece leaf.OWNER)
          (number_at zeros (leaf_writes o) 3 leaf.KEY o.id refl refl (lit≤ tt) fits.id)
          (bytes_at zeros (leaf_writes o) 4 refl (lit≤ tt) fits.owner)
          (number_at zeros (leaf_writes o) 1 leaf.OWNER_SLOT o.slot refl refl (lit≤ tt) fits.slot)
          (number_at zeros (leaf_writes o) 2 leaf.FEE_TIER o.tier refl refl (lit≤ tt) fits.tier)
          (number_at zeros (leaf_writes o) 5 leaf.QUANTITY o.lots refl refl (lit≤ tt) fits.lots)
          (number_at zeros (leaf_writes o) 6 leaf.CLIENT_ORDER_ID o.client refl refl (lit≤ tt) fits.client);
    }

pub leaf-padding : (o : Order) → HasLeafPadding (wrote zeros (leaf_writes o))
leaf-padding o = bytes_in-wrote zeros (leaf_writes o) leaf.PADDING refl ∙ bytes_in-replicate 72 0 leaf.PADDING (lit≤ tt)

abbrev pub inner_writes : ℕ → ℕ → ℕ → ℕ → List Write
inner_writes prefix key first second =
    number_write inner.TAG 1
    ∷ number_write inner.PREFIX_LEN prefix
    ∷ number_write inner.KEY key
    ∷ number_write inner.FIRST_CHILD first
    ∷ number_write inner.SECOND_CHILD second
    ∷ []

module _ (prefix key first second : ℕ) where
  pub inner-wrote : prefix < 2 ^ 32 → key < 2 ^ 128 → first < 2 ^ 32 → second < 2 ^ 32
      → IsInner (wrote zeros (inner_writes prefix key first second)) prefix key first second
  inner-wrote p k f s = record {
    tag = number_at zeros (inner_writes prefix key first second) 0 inner.TAG 1 refl refl (lit≤ tt) (omega arith);
    prefixes = number_at zeros (inner_writes prefix key first second) 1 inner.PREFIX_LEN prefix refl refl (lit≤ tt) p;
    keys = number_at zeros (inner_writes prefix key first second) 2 inner.KEY key refl refl (lit≤ tt) k;
    firsts = number_at zeros (inner_writes prefix key first second) 3 inner.FIRST_CHILD first refl refl (lit≤ tt) f;
    seconds = number_at zeros (inner_writes prefix key first second) 4 inner.SECOND_CHILD second refl refl (lit≤ tt) s;
  }

  pub inner-padding : HasInnerPadding (wrote zeros (inner_writes prefix key first second))
  inner-padding = bytes_in-wrote zeros (inner_writes prefix key first second) inner.PADDING refl ∙ bytes_in-replicate 72 0 inner.PADDING (lit≤ tt)

abbrev pub free_writes : ℕ → ℕ → List Write
free_writes tag next = number_write free.TAG tag ∷ number_write free.NEXT next ∷ []

module _ (tag next : ℕ) where
  pub free-wrote : tag < 2 ^ 32 → next < 2 ^ 32 → IsFree (wrote zeros (free_writes tag next)) tag next
  free-wrote t n = record {
    tags = number_at zeros (free_writes tag next) 0 free.TAG tag refl refl (lit≤ tt) t;
    nexts = number_at zeros (free_writes tag next) 1 free.NEXT next refl refl (lit≤ tt) n;
  }

  pub free-padding : HasFreePadding (wrote zeros (free_writes tag next))
  free-padding = bytes_in-wrote zeros (free_writes tag next) free.PADDING refl ∙ bytes_in-replicate 72 0 free.PADDING (lit≤ tt)
