-- The first word of a field, and the words after it.
use Rattle.std.proofs.Common.{◌≡◌, ◌+◌, ◌-◌, ◌∙◌, ◌≤◌, ◌<◌, ◌++◌, ◌∷◌, [], ℕ, Bor, set, nat_lt, if◌then◌else◌, Bool, true, false, List, Some, None, length, take, drop, arith, refl, ap}
use Rattle.std.proofs.lemmas.List.{length-drop, map-append, take_all, take_more_set}
use Rattle.dex_statement.specs.Words.{texts}
use Rattle.std.specs.List.{onto_first, position, position_or_len, slice_split}
use Rattle.std.proofs.lemmas.Bool.Decides.{nat_tests}
use Rattle.std.proofs.lemmas.List.Splits.{slice_split-cons_no, slice_split_first}

-- a list in which no element passes is one part
whole_at : (p : ℕ → Bool) (x : ℕ) (xs : List ℕ) (passes : Bool) → p x ≡ passes
    → (length xs ≤ position_or_len p xs → slice_split p xs ≡ xs ∷ [])
    → length (x ∷ xs) ≤ position_or_len p (x ∷ xs) → slice_split p (x ∷ xs) ≡ (x ∷ xs) ∷ []
whole_at p x xs true e more h = absurd (let at = rw e at h in omega arith)
whole_at p x xs false e more h =
    let at = rw e at h in
    slice_split-cons_no p x xs e ∙ ap (onto_first x) (more (omega arith))

whole : (p : ℕ → Bool) (xs : List ℕ) → length xs ≤ position_or_len p xs → slice_split p xs ≡ xs ∷ []
whole p [] h = refl
whole p (x ∷ xs) h = whole_at p x xs (p x) refl (whole p xs) h

-- what is recorded of the first word, by the answer of `position`
pub record IsCut (p : ℕ → Bool) (field : List ℕ) (place : ℕ) : Type 0 where
  pub within : place < length field
  pub words : slice_split p field ≡ take place field ∷ slice_split p (drop (place + 1) field)

cut_at : (p : ℕ → Bool) (field : List ℕ) (place : ℕ) (found : Bool) → nat_lt (position_or_len p field) (length field) ≡ found
    → (if found then Some (position_or_len p field) else None) ≡ Some place → IsCut p field place
cut_at p field place true within e =
    let same : position_or_len p field ≡ place = cc e in
    let below : position_or_len p field < length field = grind (arith, nat_tests) in
    record { within = rw (← same) below; words = rw (← same) (slice_split_first p field 0 below) }
cut_at p field place false within e = cc e

-- a field that is cut at its first space
pub cut : (p : ℕ → Bool) (field : List ℕ) (place : ℕ) → position p field ≡ Some place → IsCut p field place
cut p field place e = cut_at p field place (nat_lt (position_or_len p field) (length field)) refl e

uncut_at : (p : ℕ → Bool) (field : List ℕ) (found : Bool) → nat_lt (position_or_len p field) (length field) ≡ found
    → (if found then Some (position_or_len p field) else None) ≡ None → slice_split p field ≡ field ∷ []
uncut_at p field true within e = cc e
uncut_at p field false within e = whole p field (grind (arith, nat_tests))

-- a field without a space
pub uncut : (p : ℕ → Bool) (field : List ℕ) → position p field ≡ None → slice_split p field ≡ field ∷ []
uncut p field e = uncut_at p field (nat_lt (position_or_len p field) (length field)) refl e

-- a field is cut at its first space, with what stands after as a slice takes it
pub cut_behind : (p : ℕ → Bool) (field : List ℕ) (place : ℕ) → position p field ≡ Some place
    → slice_split p field ≡ take place field ∷ slice_split p (take (length field - (place + 1)) (drop (place + 1) field))
cut_behind p field place e =
    let whole_rest : take (length field - (place + 1)) (drop (place + 1) field) ≡ drop (place + 1) field =
    take_all _ _ (omega (arith, length-drop (place + 1) field)) in
    rw whole_rest (cut p field place e).words

pub behind_shorter : (p : ℕ → Bool) (field : List ℕ) (place : ℕ) → position p field ≡ Some place
    → length (take (length field - (place + 1)) (drop (place + 1) field)) < length field
behind_shorter p field place e =
    let within = (cut p field place e).within in
    rw (take_all (length field - (place + 1)) (drop (place + 1) field) (omega (arith, length-drop (place + 1) field)))
    (omega (arith, length-drop (place + 1) field))

-- one more word that is kept
pub word_more : (words : List (Bor (List ℕ))) (count : ℕ) (word : Bor (List ℕ)) → count < length words
    → texts (take (count + 1) (set words count word)) ≡ texts (take count words) ++ word.now ∷ []
word_more words count word below = ap texts (take_more_set words count word below) ∙ map-append (λ (w : Bor (List ℕ)). w.now) (take count words) (word ∷ [])
