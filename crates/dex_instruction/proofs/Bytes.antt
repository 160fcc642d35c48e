-- A number that is written is read back, and what is read is written again.
use Rattle.std.proofs.Common.{◌≡◌, ℕ, zero, suc, ◌+◌, ◌*◌, ◌/◌, ◌%◌, ◌^◌, ◌<◌, ◌≤◌, List, [], ◌∷◌, ◌++◌, length, drop, refl, sym, ap, ◌∙◌, arith}
use Rattle.std.proofs.Math.Nat.{div-div-eq-div-mul, pow-suc}
use Rattle.std.proofs.lemmas.List.{drop-drop, drop_at, get_or-drop, length-drop}
use Rattle.std.specs.Int.{byte_at, bytes_low_first}
use Rattle.byteorder.specs.Endian.{little_bytes, little_from, little_number}
use Rattle.byteorder.specs.Numbers.{length-bytes_low_first, little_from-cons, little_from-lt, little_number-reads_back}
use Rattle.dex_instruction.specs.Numbers.{AreBytes, number, number_at}

-- a number has as many bytes as its width
pub length-number : (width x : ℕ) → length (number width x) ≡ width
unfolding number
length-number width x = length-bytes_low_first 0 width x

-- a number that fits its width is read back
pub number_at-front : (width x : ℕ) (rest : List ℕ) → x < 256 ^ width → number_at width 0 (number width x ++ rest) ≡ x
unfolding number number_at
number_at-front width x rest fits = little_number-reads_back width x rest fits

-- what stands after a number is read there
pub number_at-behind : (width x other place : ℕ) (rest : List ℕ) → number_at other (width + place) (number width x ++ rest) ≡ number_at other place rest
unfolding number_at
number_at-behind width x other place rest =
    let split : drop (width + place) (number width x ++ rest) ≡ drop place (drop width (number width x ++ rest)) = sym (drop-drop place width (number width x ++ rest)) in
    ap (little_number other) (split ∙ ap (drop place) (drop_at (number width x) rest width (length-number width x)))

byte_at-suc : (place x : ℕ) → byte_at (suc place) x ≡ byte_at place (x / 256)
byte_at-suc zero x = refl
byte_at-suc (suc place) x =
    let power : 256 ^ suc (suc place) ≡ 256 * 256 ^ suc place = omega (arith, pow-suc 256 (suc place)) in
    ap (λ (p : ℕ). x / p % 256) power ∙ ap (λ (y : ℕ). y % 256) (sym (div-div-eq-div-mul x 256 (256 ^ suc place)))

-- the bytes of a number from the second on are those of the number without its lowest byte
bytes-suc : (place count x : ℕ) → bytes_low_first (suc place) count x ≡ bytes_low_first place count (x / 256)
bytes-suc place zero x = refl
bytes-suc place (suc count) x = rw (byte_at-suc place x, bytes-suc (suc place) count x) refl

AreBytes-rest : (b : ℕ) (bytes : List ℕ) → AreBytes (b ∷ bytes) → AreBytes bytes
AreBytes-rest b bytes h place = h (suc place)

pub AreBytes-drop : (place : ℕ) (bytes : List ℕ) → AreBytes bytes → AreBytes (drop place bytes)
AreBytes-drop place bytes h i = rw get_or-drop (h (place + i))

-- the bytes of the number that some bytes spell are those bytes
written_back : (width : ℕ) (bytes : List ℕ) → AreBytes bytes → width ≤ length bytes → little_bytes width (little_number width bytes) ++ drop width bytes ≡ bytes
written_back zero bytes h long = refl
written_back (suc width) [] h long = absurd (omega arith)
written_back (suc width) (b ∷ bytes) h long =
    let low : b < 256 = h 0 in
    let behind : little_from 1 width (b ∷ bytes) ≡ little_number width bytes = little_from-cons 0 width b bytes in
    let first : (b + 256 * little_number width bytes) % 256 ≡ b = omega arith in
    let others : (b + 256 * little_number width bytes) / 256 ≡ little_number width bytes = omega arith in
    let again = written_back width bytes (AreBytes-rest b bytes h) (omega arith) in
    rw (behind, bytes-suc 0 width (b + 256 * little_number width bytes), first, others, again) refl

-- bytes at a place are those of their number
pub number-number_at : (width place : ℕ) (bytes : List ℕ) → AreBytes bytes → place + width ≤ length bytes
    → number width (number_at width place bytes) ++ drop (place + width) bytes ≡ drop place bytes
unfolding number number_at
number-number_at width place bytes h within =
    let split : drop (place + width) bytes ≡ drop width (drop place bytes) = sym (drop-drop width place bytes) in
    ap (λ (rest : List ℕ). little_bytes width (little_number width (drop place bytes)) ++ rest) split
    ∙ written_back width (drop place bytes) (AreBytes-drop place bytes h) (omega (arith, length-drop place bytes))

-- a number that is read fits its width
pub number_at-lt : (width place : ℕ) (bytes : List ℕ) → AreBytes bytes → number_at width place bytes < 256 ^ width
unfolding number_at
number_at-lt width place bytes h = little_from-lt 0 width (drop place bytes) (AreBytes-drop place bytes h)
