-- The leading bits of keys: which keys share how many, and how that orders them.
use Rattle.std.proofs.Common.{◌≡◌, ◌≢◌, ℕ, zero, suc, ◌+◌, ◌-◌, ◌*◌, ◌/◌, ◌^◌, ◌<◌, ◌≤◌, inl, inr, sym, ap, ◌∙◌, subst, arith}
use Rattle.std.proofs.Math.Nat.{div-div-eq-div-mul, div-eq_of_lt, div-mul-le_self, lt-div-mul-add, pow-le-pow_right, pow-suc}
use Rattle.std.proofs.lemmas.Bool.{cases_lt}
use Rattle.std.proofs.lemmas.Nat.{and_le_l, and_le_r, le-div, leading_length, pow_pos, xor_lt, xor_shr}
use Rattle.std.specs.Int.{leading_zeros, w128}
use Rattle.std.specs.Int.Bits.{bit_xor, xor_add_and, xor_self}
use Rattle.dex_slab.specs.Path.{bit_behind, shared_bits}
use Rattle.dex_slab.specs.Tree.{Begins, first_bits}

-- ---- the first bits of one key

-- one bit less is half
pub first_bits-half : (p x : ℕ) → p < 128 → first_bits p x ≡ first_bits (suc p) x / 2
unfolding first_bits
first_bits-half p x lt =
    let wide : 128 - p ≡ suc (128 - suc p) = omega arith in
    ap (λ (n : ℕ). x / 2 ^ n) wide
    ∙ ap (λ (n : ℕ). x / n) (pow-suc 2 (128 - suc p))
    ∙ sym (div-div-eq-div-mul x (2 ^ (128 - suc p)) 2)

-- one bit more
pub first_bits-more : (p x : ℕ) → p < 128 → first_bits (suc p) x ≡ 2 * first_bits p x + bit_behind p x
unfolding bit_behind
first_bits-more p x lt = omega (arith, first_bits-half p x lt)

pub bit_behind-lt : (p x : ℕ) → bit_behind p x < 2
unfolding bit_behind
bit_behind-lt p x = omega arith

-- no bits
pub first_bits-none : (x : ℕ) → x < 2 ^ 128 → first_bits 0 x ≡ 0
unfolding first_bits
first_bits-none x lt = div-eq_of_lt lt

-- keys that share so many bits share fewer
pub first_bits-fewer : (q p x y : ℕ) → q ≤ p → p ≤ 128 → first_bits p x ≡ first_bits p y → first_bits q x ≡ first_bits q y
first_bits-fewer q zero x y le within same =
    let none : q ≡ 0 = omega arith in
    subst (λ (n : ℕ). first_bits n x ≡ first_bits n y) (sym none) same
first_bits-fewer q (suc p) x y le within same =
    elim (cases_lt p q) [
      | inl more ↦
          let all : q ≡ suc p = omega arith in
          subst (λ (n : ℕ). first_bits n x ≡ first_bits n y) (sym all) same
      | inr less ↦ first_bits-fewer q p x y less (omega arith) (first_bits-half p x (omega arith) ∙ ap (λ (n : ℕ). n / 2) same ∙ sym (first_bits-half p y (omega arith)))
    ]

div-le : (x y d : ℕ) → 0 < d → x ≤ y → x / d ≤ y / d
div-le x y d pos le = le-div (x / d) y d pos (omega (arith, div-mul-le_self x d))

-- the greater first bits are those of the greater key
pub first_bits-lt : (p x y : ℕ) → first_bits p x < first_bits p y → x < y
unfolding first_bits
first_bits-lt p x y lt =
    elim (cases_lt x y) [
      | inl less ↦ less
      | inr more ↦ absurd (omega (arith, div-le y x (2 ^ (128 - p)) (pow_pos (128 - p)) more))
    ]

-- ---- which keys begin so

-- a key that begins so has the first bits
pub Begins-first : (p k bit x : ℕ) → p < 128 → bit < 2 → Begins p k bit x → first_bits p x ≡ first_bits p k
Begins-first p k bit x lt two begins = omega (arith, first_bits-half p x lt)

pub Begins-bit : (p k bit x : ℕ) → bit < 2 → Begins p k bit x → bit_behind p x ≡ bit
unfolding bit_behind
Begins-bit p k bit x two begins = omega arith

pub Begins-from : (p k bit x : ℕ) → p < 128 → first_bits p x ≡ first_bits p k → bit_behind p x ≡ bit → Begins p k bit x
Begins-from p k bit x lt same next = omega (arith, first_bits-more p x lt)

-- what begins with 0 is less than what begins with 1
pub Begins-lt : (p k x y : ℕ) → Begins p k 0 x → Begins p k 1 y → x < y
Begins-lt p k x y first second = first_bits-lt (suc p) x y (omega arith)

-- ---- how many bits two keys share

xor-zero : (a b : ℕ) → bit_xor a b ≡ 0 → a ≡ b
xor-zero a b none = omega (arith, xor_add_and a b, and_le_l a b, and_le_r a b)

all_bits : (a b : ℕ) → first_bits 128 a ≡ first_bits 128 b → a ≡ b
unfolding first_bits
all_bits a b same = omega arith

module _ (a b : ℕ) (low : a < 2 ^ 128) (below : b < 2 ^ 128) where
  -- what is left of both after the bits that they share
  rest : (m : ℕ) × (leading_zeros w128 (bit_xor a b) + m ≡ 128) × (bit_xor a b < 2 ^ m) × (2 ^ m ≤ 2 * bit_xor a b + 1)
  rest = leading_length 128 (bit_xor a b) (xor_lt 128 a b low below)

  pub shared_bits-le : shared_bits a b ≤ 128
  unfolding shared_bits
  shared_bits-le = omega (arith, rest.1)

  -- the keys agree in the bits that they share
  pub shared_bits-same : (p : ℕ) → p ≤ shared_bits a b → first_bits p a ≡ first_bits p b
  unfolding shared_bits first_bits
  shared_bits-same p le =
      let k : ℕ = 128 - p in
      let fewer : rest.0 ≤ k = omega (arith, rest.1) in
      let wide : 2 ^ rest.0 ≤ 2 ^ k = pow-le-pow_right (omega arith) fewer in
      let none : bit_xor a b / 2 ^ k ≡ 0 = div-eq_of_lt (omega (arith, rest.2)) in
      xor-zero (a / 2 ^ k) (b / 2 ^ k) (sym (xor_shr a b k) ∙ none)

  -- and in no more
  pub shared_bits-most : (p : ℕ) → p ≤ 128 → first_bits p a ≡ first_bits p b → p ≤ shared_bits a b
  unfolding shared_bits first_bits
  shared_bits-most p within same =
      let k : ℕ = 128 - p in
      let none : bit_xor a b / 2 ^ k ≡ 0 = xor_shr a b k ∙ ap (λ (n : ℕ). bit_xor n (b / 2 ^ k)) same ∙ xor_self (b / 2 ^ k) in
      let low_part : bit_xor a b < 2 ^ k = omega (arith, lt-div-mul-add {a = bit_xor a b} {b = 2 ^ k} (pow_pos k), ap (λ (n : ℕ). n * 2 ^ k) none) in
      elim (cases_lt k rest.0) [
        | inl more ↦
            let wide : 2 ^ suc k ≤ 2 ^ rest.0 = pow-le-pow_right (omega arith) more in
            absurd (omega (arith, rest.3, pow-suc 2 k))
        | inr fewer ↦ omega (arith, rest.1)
      ]

  -- two keys share fewer than all bits
  pub shared_bits-lt : a ≢ b → shared_bits a b < 128
  shared_bits-lt differ =
      elim (cases_lt (shared_bits a b) 128) [
        | inl less ↦ less
        | inr all ↦ absurd (differ (all_bits a b (shared_bits-same 128 all)))
      ]

  -- after the bits that they share they differ
  pub shared_bits-differ : shared_bits a b < 128 → bit_behind (shared_bits a b) b ≡ 1 - bit_behind (shared_bits a b) a
  shared_bits-differ less =
      let s : ℕ = shared_bits a b in
      let same : first_bits s a ≡ first_bits s b = shared_bits-same s (omega arith) in
      elim (cases_lt (bit_behind s b) (bit_behind s a)) [
        | inl lt ↦ omega (arith, bit_behind-lt s a, bit_behind-lt s b)
        | inr ge ↦ elim (cases_lt (bit_behind s a) (bit_behind s b)) [
          | inl lt ↦ omega (arith, bit_behind-lt s a, bit_behind-lt s b)
          | inr le ↦
              let more : suc s ≤ s = shared_bits-most (suc s) (omega arith) (omega (arith, first_bits-more s a less, first_bits-more s b less)) in
              absurd (omega arith)
        ]
      ]
