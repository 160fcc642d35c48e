-- Client ids are what is read of their spelling.
use Rattle.std.proofs.Common.{◌≡◌, ℕ, zero, suc, ◌+◌, ◌-◌, ◌*◌, ◌<◌, ◌≤◌, List, [], ◌∷◌, ◌++◌, length, take, drop, replicate, get_or, refl, sym, ap, subst, ◌∙◌, arith, append_assoc, set}
use Rattle.std.proofs.Math.Seq.{set-append_seam}
use Rattle.std.specs.Prelude.{map}
use Rattle.std.proofs.Props.{props}
use Rattle.std.proofs.lemmas.List.{get_or-drop, length-drop, length-take-le, take-append-drop}
use Rattle.dex_types.specs.declared.client_ids.ClientIds.{ClientIds}
use Rattle.dex_instruction.specs.IdFacts.{length-numbers_at}
use Rattle.dex_instruction.specs.IdList.{id_count, ids_in, padded_ids}
use Rattle.dex_instruction.specs.Numbers.{Field, number, number_at, numbers_at, spelled, widths}
use Rattle.dex_instruction.specs.Spelling.{AllFit, id_fields}
use Rattle.dex_instruction.proofs.Bytes.{number_at-front, number_at-behind}
use Rattle.dex_instruction.proofs.Fields.{length-spelled}

-- what the type says of client ids
AreIds : List ℕ → ℕ → Type 0
AreIds ids count = (1 ≤ count) × (count ≤ 8) × ((i : ℕ) → count ≤ i → get_or ids i 0 ≡ 0)

AreIds-prop : (ids : List ℕ) (count : ℕ) → IsProp (AreIds ids count)
unfolding AreIds
AreIds-prop ids count = hlevel props

rebuilt : (ids : List ℕ) (count : ℕ) → AreIds ids count → ClientIds
unfolding AreIds
rebuilt ids count facts = record { ids = ids; count = count; some = facts.0; at_most_eight = facts.1; zeros_behind = facts.2 }

facts_of : (a : ClientIds) → AreIds a.ids a.count
unfolding AreIds
facts_of a = (a.some, a.at_most_eight, a.zeros_behind)

-- client ids are their ids and their count
pub same_ids : (a b : ClientIds) → a.ids ≡ b.ids → a.count ≡ b.count → a ≡ b
unfolding AreIds rebuilt facts_of
same_ids a b e f =
    let at_count : (g : AreIds a.ids b.count) → rebuilt a.ids a.count (facts_of a) ≡ rebuilt a.ids b.count g =
    subst (λ (n : ℕ). (g : AreIds a.ids n) → rebuilt a.ids a.count (facts_of a) ≡ rebuilt a.ids n g) f
    (λ g. ap (rebuilt a.ids a.count) (AreIds-prop a.ids a.count (facts_of a) g)) in
    subst (λ (xs : List ℕ). (g : AreIds xs b.count) → rebuilt a.ids a.count (facts_of a) ≡ rebuilt xs b.count g) e at_count (facts_of b)

-- ---- what is read of a spelling

abbrev pub as_fields : List ℕ → List Field
as_fields ids = map (λ id. (8, id)) ids

pub widths-as_fields : (ids : List ℕ) → widths (as_fields ids) ≡ 8 * length ids
widths-as_fields [] = refl
widths-as_fields (id ∷ ids) = omega (arith, widths-as_fields ids)

numbers_at-behind : (count width x place : ℕ) (rest : List ℕ) → numbers_at count (width + place) (number width x ++ rest) ≡ numbers_at count place rest
unfolding numbers_at
numbers_at-behind zero width x place rest = refl
numbers_at-behind (suc count) width x place rest =
    let moved : width + place + 8 ≡ width + (place + 8) = omega arith in
    rw (number_at-behind width x 8 place rest, moved, numbers_at-behind count width x (place + 8) rest) refl

-- ids that are spelled from the front are read back
numbers_at-front : (ids : List ℕ) → AllFit (as_fields ids) → numbers_at (length ids) 0 (spelled (as_fields ids)) ≡ ids
unfolding numbers_at
numbers_at-front [] fit = refl
numbers_at-front (id ∷ ids) fit =
    let first : number_at 8 0 (number 8 id ++ spelled (as_fields ids)) ≡ id = number_at-front 8 id (spelled (as_fields ids)) fit.0 in
    let others : numbers_at (length ids) 8 (number 8 id ++ spelled (as_fields ids)) ≡ ids = numbers_at-behind (length ids) 8 id 0 (spelled (as_fields ids)) ∙ numbers_at-front ids fit.1 in
    rw (first, others) refl

-- a list of zeros
zeros_are : (xs : List ℕ) → ((i : ℕ) → get_or xs i 0 ≡ zero) → xs ≡ replicate (length xs) 0
zeros_are [] h = refl
zeros_are (x ∷ xs) h = rw (h 0, ← zeros_are xs (λ i. h (suc i))) refl

-- the ids that count, and zeros after them
ids_padded : (a : ClientIds) → length a.ids ≡ 8 → take a.count a.ids ++ replicate (8 - a.count) 0 ≡ a.ids
ids_padded a eight =
    let behind : (i : ℕ) → get_or (drop a.count a.ids) i 0 ≡ zero = λ i. rw get_or-drop (a.zeros_behind (a.count + i) (omega arith)) in
    let zeros = zeros_are (drop a.count a.ids) behind in
    let size : length (drop a.count a.ids) ≡ 8 - a.count = omega (arith, length-drop a.count a.ids) in
    ap (λ (xs : List ℕ). take a.count a.ids ++ xs) (ap (λ (n : ℕ). replicate {A = ℕ} n 0) (sym size) ∙ sym zeros) ∙ take-append-drop a.count a.ids

-- the ids of a spelling are read back
pub ids_in-spelled : (tag : ℕ) (a : ClientIds) → length a.ids ≡ 8 → AllFit (id_fields a) → ids_in (spelled ((1, 0) ∷ (4, tag) ∷ id_fields a)) ≡ a
unfolding ids_in
ids_in-spelled tag a eight fit =
    let ids : List ℕ = take a.count a.ids in
    let bytes : List ℕ = spelled ((1, 0) ∷ (4, tag) ∷ id_fields a) in
    let many : length ids ≡ a.count = length-take-le a.count a.ids (omega arith) in
    let size : length bytes ≡ 5 + 8 * a.count = omega (arith, length-spelled ((1, 0) ∷ (4, tag) ∷ id_fields a), widths-as_fields ids) in
    let count_is : id_count bytes ≡ a.count = omega arith in
    let behind_version = numbers_at-behind a.count 1 0 4 (number 4 tag ++ spelled (id_fields a)) in
    let behind_tag = numbers_at-behind a.count 4 tag 0 (spelled (id_fields a)) in
    let read : numbers_at a.count 5 bytes ≡ ids =
    behind_version ∙ behind_tag ∙ ap (λ (n : ℕ). numbers_at n 0 (spelled (id_fields a))) (sym many) ∙ numbers_at-front ids fit in
    let ids_is : padded_ids bytes ≡ a.ids =
    ap (λ (n : ℕ). numbers_at n 5 bytes ++ replicate (8 - n) 0) count_is ∙ ap (λ (xs : List ℕ). xs ++ replicate (8 - a.count) 0) read ∙ ids_padded a eight in
    same_ids (ids_in bytes) a ids_is count_is

-- ---- reading ids one after the other

numbers_at-more : (count place : ℕ) (bytes : List ℕ) → numbers_at (suc count) place bytes ≡ numbers_at count place bytes ++ number_at 8 (place + 8 * count) bytes ∷ []
unfolding numbers_at
numbers_at-more zero place bytes = ap (λ (p : ℕ). number_at 8 p bytes ∷ []) (omega arith)
numbers_at-more (suc count) place bytes =
    let moved : place + 8 + 8 * count ≡ place + 8 * suc count = omega arith in
    ap (λ (xs : List ℕ). number_at 8 place bytes ∷ xs) (numbers_at-more count (place + 8) bytes ∙ ap (λ (p : ℕ). numbers_at count (place + 8) bytes ++ number_at 8 p bytes ∷ []) moved)

-- one id more is set in the place of a zero
pub ids_more : (count : ℕ) (bytes : List ℕ) → count < 8
    → set (numbers_at count 5 bytes ++ replicate (8 - count) 0) count (number_at 8 (5 + 8 * count) bytes) ≡ numbers_at (count + 1) 5 bytes ++ replicate (8 - (count + 1)) 0
ids_more count bytes lt =
    let front : List ℕ = numbers_at count 5 bytes in
    let rest : List ℕ = replicate (8 - (count + 1)) 0 in
    let id : ℕ = number_at 8 (5 + 8 * count) bytes in
    let fewer : 8 - count ≡ suc (8 - (count + 1)) = omega arith in
    let zeros : replicate (8 - count) 0 ≡ 0 ∷ rest = ap (λ (n : ℕ). replicate {A = ℕ} n 0) fewer in
    let place : count ≡ length front = sym (length-numbers_at count 5 bytes) in
    let one : count + 1 ≡ suc count = omega arith in
    ap (λ (xs : List ℕ). set (front ++ xs) count id) zeros
    ∙ ap (λ (n : ℕ). set (front ++ 0 ∷ rest) n id) place
    ∙ set-append_seam front 0 rest id
    ∙ sym (append_assoc front (id ∷ []) rest)
    ∙ ap (λ (xs : List ℕ). xs ++ rest) (sym (numbers_at-more count 5 bytes) ∙ ap (λ (n : ℕ). numbers_at n 5 bytes) (sym one))
