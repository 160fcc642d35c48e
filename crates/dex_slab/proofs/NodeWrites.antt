-- What a write of one node, or of the header, leaves of the others.
use Rattle.std.proofs.Common.{◌≡◌, ◌≢◌, ℕ, ◌+◌, ◌*◌, ◌<◌, ◌≤◌, List, length, true, sym, ap, subst, ◌∙◌, arith, inl, inr}
use Rattle.std.proofs.lemmas.Bool.{cases_lt}
use borrow.Rule.Slice.PartMut.{put_mid}
use Rattle.dex_fields.specs.declared.field.Field.{Field}
use Rattle.dex_fields.specs.Bytes.{AreApart, end_of, bytes_of_number, number_in, with_bytes, with_number}
use Rattle.dex_fields.proofs.Places.{are_apart, number_in-other}
use Rattle.dex_fields.proofs.Writing.{bytes_in-with_bytes, bytes_in-with_bytes_apart, get_or-with_bytes, number_in-with_bytes_apart, put_mid-is_with_bytes}
use Rattle.dex_slab.specs.Changes.{ChangesHeader, ChangesNode, IsBeside, header}
use Rattle.dex_slab.specs.Nodes.{node_bytes, node_field, nodes_within}

-- two nodes are apart
pub nodes_apart : (a b : ℕ) → a ≢ b → AreApart (node_field a) (node_field b)
nodes_apart a b other =
    elim (cases_lt a b) [
      | inl lt ↦ inl (omega arith)
      | inr ge ↦ inr (omega arith)
    ]

pub ChangesNode-put : (bytes : List ℕ) (node : ℕ) (piece : List ℕ) → ChangesNode node bytes (with_bytes bytes (node_field node) piece)
ChangesNode-put bytes node piece = record {
  nodes = λ other apart. bytes_in-with_bytes_apart bytes (node_field other) (node_field node) piece (nodes_apart other node apart);
  header_numbers = λ field low. number_in-with_bytes_apart bytes field (node_field node) piece (inl (omega arith));
  places = λ place beside. get_or-with_bytes bytes (node_field node) piece place beside;
}

pub node_bytes-put : (bytes : List ℕ) (node : ℕ) (piece : List ℕ) → end_of (node_field node) ≤ length bytes → length piece ≡ 72
    → node_bytes (with_bytes bytes (node_field node) piece) node ≡ piece
node_bytes-put bytes node piece within size = bytes_in-with_bytes bytes (node_field node) piece within size

-- a copy into the place of a node
pub put_mid-node : (bytes piece now : List ℕ) (node start count : ℕ) → start ≡ 45 + node * 72 → count ≡ 72 → now ≡ piece → length piece ≡ 72
    → end_of (node_field node) ≤ length bytes → put_mid start count bytes now ≡ with_bytes bytes (node_field node) piece
put_mid-node bytes piece now node start count begins counted copied size within =
    ap (λ (s : ℕ). put_mid s count bytes now) begins ∙ put_mid-is_with_bytes bytes (node_field node) piece now count within size counted copied

-- ---- words of the header

-- a number that another number is written beside
pub number_kept : (old new : List ℕ) (field : Field) (x : ℕ) (other : Field) → new ≡ with_number old field x → are_apart other field ≡ true
    → number_in new other ≡ number_in old other
number_kept old new field x other made apart = ap (λ (l : List ℕ). number_in l other) made ∙ number_in-other old field x other apart

ChangesHeader-put : (bytes : List ℕ) (field : Field) (x : ℕ) → 13 ≤ field.at → end_of field ≤ 45 → ChangesHeader bytes (with_number bytes field x)
unfolding with_number
ChangesHeader-put bytes field x low high = record {
  nodes = λ node. bytes_in-with_bytes_apart bytes (node_field node) field (bytes_of_number field.len x) (inr (omega arith));
  places = λ place beside. get_or-with_bytes bytes field (bytes_of_number field.len x) place (wider field place low high beside);
} where
  wider : (field : Field) (place : ℕ) → 13 ≤ field.at → end_of field ≤ 45 → IsBeside header place → IsBeside field place
  wider field place low high (inl before) = inl (omega arith)
  wider field place low high (inr behind) = inr (omega arith)

pub ChangesHeader-by : (old new : List ℕ) (field : Field) (x : ℕ) → new ≡ with_number old field x → 13 ≤ field.at → end_of field ≤ 45 → ChangesHeader old new
ChangesHeader-by old new field x made low high = subst (λ (l : List ℕ). ChangesHeader old l) (sym made) (ChangesHeader-put old field x low high)

pub ChangesHeader-then : (old mid new : List ℕ) → ChangesHeader old mid → ChangesHeader mid new → ChangesHeader old new
ChangesHeader-then old mid new first second = record {
  nodes = λ node. second.nodes node ∙ first.nodes node;
  places = λ place beside. second.places place beside ∙ first.places place beside;
}

-- a node of the account lies in its bytes
pub node_within : (bytes : List ℕ) (node : ℕ) → node < nodes_within (length bytes) → end_of (node_field node) ≤ length bytes
node_within bytes node lt = omega arith
