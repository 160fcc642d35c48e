-- Numbers as bytes, the lowest byte first, at any width.
use Rattle.std.proofs.Common.{◌≡◌, ℕ, zero, suc, ◌+◌, ◌*◌, ◌/◌, ◌%◌, ◌^◌, ◌<◌, ◌≤◌, List, [], ◌∷◌, ◌++◌, length, take, get_or, refl, sym, ap, ◌∙◌, arith, add-one}
use Rattle.std.proofs.Math.Arith.{mod-mul}
use Rattle.std.proofs.Math.Nat.{div-div-eq-div-mul, div-one, mul_assoc, mul_comm, one-le-pow, pow-suc, pow-succ', suc-add, zero-add}
use Rattle.std.proofs.lemmas.List.{length-take-le, take_all, take_more}
use Rattle.std.proofs.lemmas.Nat.{div_below}
use Rattle.std.specs.Int.{byte_at, byte_worth, bytes_low_first, sum_through}
use Rattle.dex_fields.specs.Bytes.{AreBytes, bytes_of_number, number_of_bytes}

-- a number of `count` bytes has that many bytes
pub length-bytes_of_number : (count x : ℕ) → length (bytes_of_number count x) ≡ count
unfolding bytes_of_number
length-bytes_of_number zero x = refl
length-bytes_of_number (suc count) x = ap suc (length-bytes_of_number count (x / 256))

-- a number is read back from its bytes
pub number_of_bytes-bytes_of_number : (count x : ℕ) → x < 256 ^ count → number_of_bytes (bytes_of_number count x) ≡ x
unfolding bytes_of_number number_of_bytes
number_of_bytes-bytes_of_number zero x h = omega arith
number_of_bytes-bytes_of_number (suc count) x h =
    let wide : 256 ^ suc count ≡ 256 ^ count * 256 = pow-suc 256 count in
    let below : x / 256 < 256 ^ count = div_below x 256 (256 ^ count) (omega arith) (omega (arith, wide)) in
    omega (arith, number_of_bytes-bytes_of_number count (x / 256) below)

-- bytes are written back as their number's bytes
pub bytes_of_number-number_of_bytes : (bytes : List ℕ) → AreBytes bytes → bytes_of_number (length bytes) (number_of_bytes bytes) ≡ bytes
unfolding bytes_of_number number_of_bytes
bytes_of_number-number_of_bytes [] h = refl
bytes_of_number-number_of_bytes (b ∷ bytes) h =
    let low : b < 256 = h 0 in
    let first : (b + 256 * number_of_bytes bytes) % 256 ≡ b = omega arith in
    let others : (b + 256 * number_of_bytes bytes) / 256 ≡ number_of_bytes bytes = omega arith in
    rw (first, others, bytes_of_number-number_of_bytes bytes (λ k. h (suc k))) refl

-- a number of bytes fits their width
pub number_of_bytes-lt : (bytes : List ℕ) → AreBytes bytes → number_of_bytes bytes < 256 ^ length bytes
unfolding number_of_bytes
number_of_bytes-lt [] h = omega arith
number_of_bytes-lt (b ∷ bytes) h =
    let low : b < 256 = h 0 in
    let rest = number_of_bytes-lt bytes (λ k. h (suc k)) in
    omega (arith, pow-suc 256 (length bytes))

-- two runs of bytes of one length that spell one number are one
pub same_bytes : (bytes others : List ℕ) → AreBytes bytes → AreBytes others → length bytes ≡ length others → number_of_bytes bytes ≡ number_of_bytes others → bytes ≡ others
same_bytes bytes others hb ho same_length same_number =
    sym (bytes_of_number-number_of_bytes bytes hb)
    ∙ ap (λ (n : ℕ). bytes_of_number n (number_of_bytes bytes)) same_length
    ∙ ap (bytes_of_number (length others)) same_number
    ∙ bytes_of_number-number_of_bytes others ho

-- the bytes after others weigh more, by the width of those before
pub number_of_bytes-append : (low high : List ℕ) → number_of_bytes (low ++ high) ≡ number_of_bytes low + 256 ^ length low * number_of_bytes high
unfolding number_of_bytes
number_of_bytes-append [] high = omega arith
number_of_bytes-append (b ∷ low) high =
    let behind = number_of_bytes-append low high in
    let wide : 256 ^ suc (length low) ≡ 256 ^ length low * 256 = pow-suc 256 (length low) in
    let weight : (256 ^ length low * 256) * number_of_bytes high ≡ 256 ^ length low * (256 * number_of_bytes high) = mul_assoc (256 ^ length low) 256 (number_of_bytes high) in
    rw (behind, wide) (omega arith)

-- the bytes of a number are those of its lower part, and those of what stands above it
pub bytes_of_number-append : (low high x : ℕ) → bytes_of_number (low + high) x ≡ bytes_of_number low (x % 256 ^ low) ++ bytes_of_number high (x / 256 ^ low)
unfolding bytes_of_number
bytes_of_number-append zero high x = rw (zero-add high, div-one x) refl
bytes_of_number-append (suc low) high x =
    let part : x % 256 ^ suc low ≡ (x / 256 % 256 ^ low) * 256 + x % 256 = ap (λ (p : ℕ). x % p) (pow-suc 256 low) ∙ mod-mul x (one-le-pow low 256 (omega arith)) (omega arith) in
    let first : x % 256 ^ suc low % 256 ≡ x % 256 = omega arith in
    let rest : x % 256 ^ suc low / 256 ≡ x / 256 % 256 ^ low = omega arith in
    let above : x / 256 ^ suc low ≡ x / 256 / 256 ^ low = ap (λ (p : ℕ). x / p) (pow-succ' 256 low) ∙ sym (div-div-eq-div-mul x 256 (256 ^ low)) in
    rw (suc-add low high, first, rest, above, bytes_of_number-append low high (x / 256)) refl

-- ---- the words of std

-- one byte more of a number
number_of_bytes-take_more : (count : ℕ) (bytes : List ℕ) → count < length bytes
    → number_of_bytes (take (count + 1) bytes) ≡ number_of_bytes (take count bytes) + get_or bytes count 0 * 256 ^ count
unfolding number_of_bytes
number_of_bytes-take_more count bytes h =
    let b = get_or bytes count 0 in
    let long : length (take count bytes) ≡ count = length-take-le count bytes (omega arith) in
    let front : ℕ = number_of_bytes (take count bytes) in
    let turned : 256 ^ count * (b + 256 * 0) ≡ b * 256 ^ count = mul_comm (256 ^ count) (b + 256 * 0) ∙ ap (λ (y : ℕ). y * 256 ^ count) (omega arith) in
    ap number_of_bytes (take_more bytes count 0 h)
    ∙ number_of_bytes-append (take count bytes) (b ∷ [])
    ∙ ap (λ (n : ℕ). number_of_bytes (take count bytes) + 256 ^ n * (b + 256 * 0)) long
    ∙ ap (λ (y : ℕ). number_of_bytes (take count bytes) + y) turned

byte_worth-pow : (place b : ℕ) → byte_worth place b ≡ b * 256 ^ place
byte_worth-pow zero b = omega arith
byte_worth-pow (suc place) b = refl

-- std's sum over the bytes is the number that they spell
pub sum_through-bytes : (last : ℕ) (bytes : List ℕ) → suc last ≤ length bytes
    → sum_through (λ place. byte_worth place (get_or bytes place 0)) last ≡ number_of_bytes (take (suc last) bytes)
unfolding number_of_bytes
sum_through-bytes zero (b ∷ bytes) h = omega arith
sum_through-bytes zero [] h = absurd (omega arith)
sum_through-bytes (suc last) bytes h =
    let more = number_of_bytes-take_more (suc last) bytes (omega arith) in
    rw (sum_through-bytes last bytes (omega arith), ← more, add-one) refl

-- the sum over all bytes of a number is the number
pub sum_through-all : (last : ℕ) (bytes : List ℕ) → length bytes ≡ suc last
    → sum_through (λ place. byte_worth place (get_or bytes place 0)) last ≡ number_of_bytes bytes
sum_through-all last bytes h =
    sum_through-bytes last bytes (omega arith) ∙ ap number_of_bytes (take_all (suc last) bytes (omega arith))

byte_at-pow : (place x : ℕ) → byte_at place x ≡ x / 256 ^ place % 256
byte_at-pow zero x = ap (λ (y : ℕ). y % 256) (sym (div-one x))
byte_at-pow (suc place) x = refl

-- std's bytes of a number are the bytes of the number
pub bytes_low_first-from : (place count x : ℕ) → bytes_low_first place count x ≡ bytes_of_number count (x / 256 ^ place)
unfolding bytes_of_number
bytes_low_first-from place zero x = refl
bytes_low_first-from place (suc count) x =
    let shift : x / 256 ^ suc place ≡ x / 256 ^ place / 256 = ap (λ (p : ℕ). x / p) (pow-suc 256 place) ∙ sym (div-div-eq-div-mul x (256 ^ place) 256) in
    rw (byte_at-pow place x, bytes_low_first-from (suc place) count x, shift) refl

pub bytes_low_first-is : (count x : ℕ) → bytes_low_first 0 count x ≡ bytes_of_number count x
bytes_low_first-is count x = bytes_low_first-from 0 count x ∙ ap (bytes_of_number count) (div-one x)
