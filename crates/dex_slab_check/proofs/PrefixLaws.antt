-- Keys that begin with a prefix, as shifts and halves tell it.
use Rattle.std.proofs.Common.{◌≡◌, ℕ, suc, ◌+◌, ◌-◌, ◌/◌, ◌%◌, ◌^◌, ◌<◌, ap, ◌∙◌, arith}
use Rattle.std.proofs.lemmas.Nat.{shr-shr}
use Rattle.dex_slab.specs.Tree.{Begins, first_bits}
use Rattle.dex_slab.proofs.KeyBits.{Begins-first, first_bits-fewer}

-- what begins with a longer prefix, of a key that begins with a shorter one, begins with the shorter one
pub Begins-above : (prefix other bit longer above next key : ℕ) → prefix < longer → longer < 128 → next < 2
    → Begins prefix other bit above → Begins longer above next key → Begins prefix other bit key
Begins-above prefix other bit longer above next key lt short low upper lower =
    first_bits-fewer (suc prefix) longer key above (omega arith) (omega arith) (Begins-first longer above next key short low lower) ∙ upper

-- no key has both bits next
pub one_bit : (prefix other key : ℕ) → Begins prefix other 0 key → Begins prefix other 1 key → ⊥
one_bit prefix other key zero one = omega arith

rest_of : (prefix other : ℕ) → prefix < 128 → other / 2 ^ (127 - prefix) / 2 ≡ first_bits prefix other
unfolding first_bits
rest_of prefix other short =
    let whole : 127 - prefix + 1 ≡ 128 - prefix = omega arith in
    shr-shr other (127 - prefix) 1 ∙ ap (λ (n : ℕ). other / 2 ^ n) whole

next_of : (prefix key : ℕ) → key / 2 ^ (127 - prefix) ≡ first_bits (suc prefix) key
unfolding first_bits
next_of prefix key =
    let whole : 127 - prefix ≡ 128 - suc prefix = omega arith in
    ap (λ (n : ℕ). key / 2 ^ n) whole

pub Begins-from_halves : (prefix other bit key : ℕ) → prefix < 128 → (key / 2 ^ (127 - prefix)) % 2 ≡ bit
    → key / 2 ^ (127 - prefix) / 2 ≡ other / 2 ^ (127 - prefix) / 2 → Begins prefix other bit key
Begins-from_halves prefix other bit key short low high =
    let front = next_of prefix key in
    let above = rest_of prefix other short in
    omega arith

pub halves_from_Begins : (prefix other bit key : ℕ) → prefix < 128 → bit < 2 → Begins prefix other bit key
    → ((key / 2 ^ (127 - prefix)) % 2 ≡ bit) × (key / 2 ^ (127 - prefix) / 2 ≡ other / 2 ^ (127 - prefix) / 2)
halves_from_Begins prefix other bit key short low begins =
    let front = next_of prefix key in
    let above = rest_of prefix other short in
    (omega arith, omega arith)
