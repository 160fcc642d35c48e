-- The test of a table says that its fields tile the account, at each entry and at each byte.
use Rattle.std.proofs.Common.{◌≡◌, ℕ, zero, suc, ◌+◌, ◌<◌, ◌≤◌, true, eqb, List, [], ◌∷◌, length, get_or, refl, arith, inl, inr}
use Rattle.std.specs.List.{Any}
use Rattle.std.proofs.lemmas.Bool.{and_parts, cases_lt, eqb-true}
use Rattle.dex_fields.specs.declared.field.Field.{Field}
use Rattle.dex_fields.specs.Bytes.{end_of}
use Rattle.dex_fields.specs.Tiling.{HasPlace, Tile, tiles_from}

-- what the test says of its first field, and of the others
first_field : (start : ℕ) (field : Field) (fields : List Field) (size : ℕ) → tiles_from start (field ∷ fields) size ≡ true
    → (field.at ≡ start) × (tiles_from (start + field.len) fields size ≡ true)
first_field start field fields size h =
    let both = and_parts (eqb field.at start) (tiles_from (start + field.len) fields size) h in
    (eqb-true field.at start both.0, both.1)

start_within : (start : ℕ) (fields : List Field) (size : ℕ) → tiles_from start fields size ≡ true → start ≤ size
start_within start [] size h = omega (arith, eqb-true start size h)
start_within start (field ∷ fields) size h =
    let rest = start_within (start + field.len) fields size (first_field start field fields size h).1 in
    omega arith

field_within : (start : ℕ) (fields : List Field) (size : ℕ) → tiles_from start fields size ≡ true
    → (k : ℕ) (d : Field) → k < length fields → end_of (get_or fields k d) ≤ size
field_within start [] size h k d lt = absurd (omega arith)
field_within start (field ∷ fields) size h zero d lt =
    let both = first_field start field fields size h in
    omega (arith, both.0, start_within (start + field.len) fields size both.1)
field_within start (field ∷ fields) size h (suc k) d lt =
    field_within (start + field.len) fields size (first_field start field fields size h).1 k d (omega arith)

field_behind : (start : ℕ) (fields : List Field) (size : ℕ) → tiles_from start fields size ≡ true
    → (k : ℕ) (d : Field) → k < length fields → start ≤ (get_or fields k d).at
field_behind start [] size h k d lt = absurd (omega arith)
field_behind start (field ∷ fields) size h zero d lt = omega (arith, (first_field start field fields size h).0)
field_behind start (field ∷ fields) size h (suc k) d lt =
    let rest = field_behind (start + field.len) fields size (first_field start field fields size h).1 k d (omega arith) in
    omega (arith, rest)

fields_apart : (start : ℕ) (fields : List Field) (size : ℕ) → tiles_from start fields size ≡ true
    → (i j : ℕ) (d : Field) → i < j → j < length fields → end_of (get_or fields i d) ≤ (get_or fields j d).at
fields_apart start [] size h i j d lt in_table = absurd (omega arith)
fields_apart start (field ∷ fields) size h i zero d lt in_table = absurd (omega arith)
fields_apart start (field ∷ fields) size h zero (suc j) d lt in_table =
    let both = first_field start field fields size h in
    omega (arith, both.0, field_behind (start + field.len) fields size both.1 j d (omega arith))
fields_apart start (field ∷ fields) size h (suc i) (suc j) d lt in_table =
    fields_apart (start + field.len) fields size (first_field start field fields size h).1 i j d (omega arith) (omega arith)

place_covered : (start : ℕ) (fields : List Field) (size : ℕ) → tiles_from start fields size ≡ true
    → (place : ℕ) → start ≤ place → place < size → Any (HasPlace place) fields
place_covered start [] size h place behind below = absurd (omega (arith, eqb-true start size h))
place_covered start (field ∷ fields) size h place behind below =
    let both = first_field start field fields size h in
    elim (cases_lt place (start + field.len)) [
      | inl here ↦ (0, field, omega arith, refl, (omega (arith, both.0), omega (arith, both.0)))
      | inr further ↦
          let rest = place_covered (start + field.len) fields size both.1 place further below in
          (suc rest.0, rest.1, omega (arith, rest.2), rest.3, rest.4)
    ]

-- a table that passes the test tiles its account
pub tile_from_test : (fields : List Field) (size : ℕ) → tiles_from 0 fields size ≡ true → Tile fields size
tile_from_test fields size h = record {
  within = field_within 0 fields size h;
  apart = fields_apart 0 fields size h;
  covers = λ place below. place_covered 0 fields size h place (omega arith) below;
}
