-- Fields written one after another: what stands in each of them at the end.
use Rattle.std.proofs.Common.{◌≡◌, ℕ, zero, suc, Bool, true, false, ◌&&◌, ◌<◌, ◌≤◌, ◌^◌, List, [], ◌∷◌, length, refl, sym, ap, subst, ◌∙◌, arith}
use Rattle.std.proofs.lemmas.Bool.{and_parts}
use Rattle.dex_fields.specs.declared.field.Field.{Field}
use Rattle.dex_fields.specs.Bytes.{IsWithin, bytes_in, bytes_of_number, end_of, number_in, number_of_bytes, with_bytes}
use Rattle.dex_fields.specs.Writes.{Write, number_write, wrote}
use Rattle.dex_fields.proofs.Numbers.{length-bytes_of_number, number_of_bytes-bytes_of_number}
use Rattle.dex_fields.proofs.Places.{AreApart-from_test, are_apart}
use Rattle.dex_fields.proofs.Writing.{bytes_in-with_bytes, bytes_in-with_bytes_apart, length-with_bytes}

-- writes keep the length
pub length-wrote : (bytes : List ℕ) (ws : List Write) → length (wrote bytes ws) ≡ length bytes
length-wrote bytes [] = refl
length-wrote bytes (w ∷ ws) = length-wrote (with_bytes bytes w.field w.piece) ws ∙ length-with_bytes bytes w.field w.piece

-- a field is apart from all that is written
abbrev pub all_apart : Field → List Write → Bool
all_apart field [] = true
all_apart field (w ∷ ws) = are_apart field w.field && all_apart field ws

pub bytes_in-wrote : (bytes : List ℕ) (ws : List Write) (field : Field) → all_apart field ws ≡ true → bytes_in (wrote bytes ws) field ≡ bytes_in bytes field
bytes_in-wrote bytes [] field h = refl
bytes_in-wrote bytes (w ∷ ws) field h =
    let both = and_parts (are_apart field w.field) (all_apart field ws) h in
    bytes_in-wrote (with_bytes bytes w.field w.piece) ws field both.1
    ∙ bytes_in-with_bytes_apart bytes field w.field w.piece (AreApart-from_test field w.field both.0)

pub number_in-wrote : (bytes : List ℕ) (ws : List Write) (field : Field) → all_apart field ws ≡ true → number_in (wrote bytes ws) field ≡ number_in bytes field
unfolding number_in
number_in-wrote bytes ws field h = ap number_of_bytes (bytes_in-wrote bytes ws field h)

-- the write with this number
abbrev pub nth : List Write → ℕ → Write
nth [] k = record { field = record { at = 0; len = 0 }; piece = [] }
nth (w ∷ ws) zero = w
nth (w ∷ ws) (suc k) = nth ws k

-- all later writes are apart from it
abbrev pub stays : List Write → ℕ → Bool
stays [] k = false
stays (w ∷ ws) zero = all_apart w.field ws
stays (w ∷ ws) (suc k) = stays ws k

-- what was written into a field stands there where later writes are apart from it
pub bytes_at : (bytes : List ℕ) (ws : List Write) (k : ℕ) → stays ws k ≡ true → IsWithin (nth ws k).field bytes
    → length (nth ws k).piece ≡ (nth ws k).field.len → bytes_in (wrote bytes ws) (nth ws k).field ≡ (nth ws k).piece
bytes_at bytes [] k h within size = absurd cc
bytes_at bytes (w ∷ ws) zero h within size =
    bytes_in-wrote (with_bytes bytes w.field w.piece) ws w.field h ∙ bytes_in-with_bytes bytes w.field w.piece within size
bytes_at bytes (w ∷ ws) (suc k) h within size =
    bytes_at (with_bytes bytes w.field w.piece) ws k h (omega (arith, length-with_bytes bytes w.field w.piece)) size

-- a number that was written
pub number_at : (bytes : List ℕ) (ws : List Write) (k : ℕ) (field : Field) (x : ℕ) → nth ws k ≡ number_write field x → stays ws k ≡ true → IsWithin field bytes
    → x < 256 ^ field.len → number_in (wrote bytes ws) field ≡ x
unfolding number_in
number_at bytes ws k field x is h within fits =
    let place : (nth ws k).field ≡ field = ap (λ (w : Write). w.field) is in
    let piece : (nth ws k).piece ≡ bytes_of_number field.len x = ap (λ (w : Write). w.piece) is in
    let there : bytes_in (wrote bytes ws) (nth ws k).field ≡ (nth ws k).piece =
    bytes_at bytes ws k h (subst (λ (f : Field). end_of f ≤ length bytes) (sym place) within)
    (ap (λ (l : List ℕ). length l) piece ∙ length-bytes_of_number field.len x ∙ sym (ap (λ (f : Field). f.len) place)) in
    ap (λ (f : Field). number_of_bytes (bytes_in (wrote bytes ws) f)) (sym place)
    ∙ ap number_of_bytes (there ∙ piece)
    ∙ number_of_bytes-bytes_of_number field.len x fits
