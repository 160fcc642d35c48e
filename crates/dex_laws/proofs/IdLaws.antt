-- laws of order ids: their price and sequence number, and the order of the book
use Rattle.std.proofs.Common.{ℕ, ◌+◌, ◌-◌, ◌*◌, ◌/◌, ◌%◌, ◌^◌, ◌≤◌, ◌<◌, ◌≡◌, ◌≢◌, ◌↔◌, ⊎_elim, true, false, IsTrue, inl, inr, arith}
use Rattle.std.proofs.lemmas.Bool.{ltb-true, ltb-false, lt-ltb, le-ltb, leb-true, le-leb, cases_lt}
use Rattle.std.proofs.lemmas.Nat.{shr_high, mod_low, shr_split, mod_below}
use Rattle.dex_types.specs.declared.terms.Side.{Side}
use Rattle.dex_types.specs.declared.terms.Side.TheVariants.{Bid, Ask}
use Rattle.dex_types.specs.Side.{price_of, sequence_of, id_of, precedes, crosses, opposite}
use Rattle.dex_laws.specs.BookOrder.{ComesBefore}

-- an id's price is what it was made of
pub price_of-id_of : (side : Side) (price sequence : ℕ) → sequence < 2 ^ 64 → price_of (id_of side price sequence) ≡ price
unfolding price_of id_of
price_of-id_of Bid price sequence small = shr_high price 64 ((2 ^ 64 - 1) - sequence) (omega arith)
price_of-id_of Ask price sequence small = shr_high price 64 sequence small

-- an id's sequence number is what it was made of
pub sequence_of-id_of : (side : Side) (price sequence : ℕ) → sequence < 2 ^ 64 → sequence_of side (id_of side price sequence) ≡ sequence
unfolding sequence_of id_of
sequence_of-id_of Bid price sequence small =
    let low : (price * 2 ^ 64 + ((2 ^ 64 - 1) - sequence)) % 2 ^ 64 ≡ (2 ^ 64 - 1) - sequence = mod_low price 64 ((2 ^ 64 - 1) - sequence) (omega arith) in
    omega arith
sequence_of-id_of Ask price sequence small = mod_low price 64 sequence small

-- a sequence number has 64 bits
pub sequence_of-below : (side : Side) (id : ℕ) → sequence_of side id < 2 ^ 64
unfolding sequence_of
sequence_of-below Bid id = omega arith
sequence_of-below Ask id = mod_below id (2 ^ 64) (omega arith)

-- each id is made of its price and its sequence number
pub id_of-parts : (side : Side) (id : ℕ) → id_of side (price_of id) (sequence_of side id) ≡ id
unfolding price_of sequence_of id_of
id_of-parts Bid id = omega (arith, shr_split id 64, mod_below id (2 ^ 64))
id_of-parts Ask id = shr_split id 64

-- an id fits its type
pub id_of-below : (side : Side) (price sequence : ℕ) → price < 2 ^ 64 → sequence < 2 ^ 64 → id_of side price sequence < 2 ^ 128
unfolding id_of
id_of-below Bid price sequence fits small = omega arith
id_of-below Ask price sequence fits small = omega arith

-- a price has 64 bits where the id fits its type
pub price_of-below : (id : ℕ) → id < 2 ^ 128 → price_of id < 2 ^ 64
unfolding price_of
price_of-below id fits = omega arith

-- a lesser id is of a lesser price, or of the same price and below
price_of-monotone : (id other : ℕ) → id < other → price_of id ≤ price_of other
unfolding price_of
price_of-monotone id other below = omega arith

-- who stands before has the better price, or is older at the same price
precedes-ComesBefore-true : (side : Side) (id other : ℕ) → precedes side id other ≡ true → ComesBefore side id other
unfolding price_of sequence_of
precedes-ComesBefore-true Bid id other before =
    let lesser : other < id = ltb-true other id before in
    ⊎_elim (λ (higher : price_of other < price_of id). inl higher)
    (λ (above : price_of id ≤ price_of other). inr (omega arith, omega (arith, mod_below id (2 ^ 64), mod_below other (2 ^ 64))))
    (cases_lt (price_of other) (price_of id))
precedes-ComesBefore-true Ask id other before =
    let lesser : id < other = ltb-true id other before in
    ⊎_elim (λ (lower : price_of id < price_of other). inl lower)
    (λ (above : price_of other ≤ price_of id). inr (omega arith, omega (arith, mod_below id (2 ^ 64), mod_below other (2 ^ 64))))
    (cases_lt (price_of id) (price_of other))

ComesBefore-precedes : (side : Side) (id other : ℕ) → ComesBefore side id other → precedes side id other ≡ true
unfolding price_of sequence_of
ComesBefore-precedes Bid id other (inl higher) = lt-ltb other id (omega arith)
ComesBefore-precedes Bid id other (inr older) =
    let same : id / 2 ^ 64 ≡ other / 2 ^ 64 = older.0 in
    let later : (2 ^ 64 - 1) - id % 2 ^ 64 < (2 ^ 64 - 1) - other % 2 ^ 64 = older.1 in
    lt-ltb other id (omega arith)
ComesBefore-precedes Ask id other (inl lower) = lt-ltb id other (omega arith)
ComesBefore-precedes Ask id other (inr older) =
    let same : id / 2 ^ 64 ≡ other / 2 ^ 64 = older.0 in
    let later : id % 2 ^ 64 < other % 2 ^ 64 = older.1 in
    lt-ltb id other (omega arith)

-- the book's order of ids is that of better prices, and of age at equal prices
pub precedes-iff : (side : Side) (id other : ℕ) → IsTrue (precedes side id other) ↔ ComesBefore side id other
precedes-iff side id other = (precedes-ComesBefore-true side id other, ComesBefore-precedes side id other)

-- no order stands before itself
pub precedes-irreflexive : (side : Side) (id : ℕ) → precedes side id id ≡ false
precedes-irreflexive Bid id = le-ltb id id (omega arith)
precedes-irreflexive Ask id = le-ltb id id (omega arith)

-- who stands before one stands before all after it
pub precedes-transitive : (side : Side) (first next last : ℕ) → precedes side first next ≡ true → precedes side next last ≡ true → precedes side first last ≡ true
precedes-transitive Bid first next last before behind = lt-ltb last first (omega (arith, ltb-true next first before, ltb-true last next behind))
precedes-transitive Ask first next last before behind = lt-ltb first last (omega (arith, ltb-true first next before, ltb-true next last behind))

-- of two orders that stand before one another neither, the ids are one
pub precedes-total : (side : Side) (id other : ℕ) → precedes side id other ≡ false → id ≢ other → precedes side other id ≡ true
precedes-total Bid id other behind apart = lt-ltb id other (omega (arith, ltb-false other id behind))
precedes-total Ask id other behind apart = lt-ltb other id (omega (arith, ltb-false id other behind))

-- of two orders one at most stands before the other
pub precedes-asymmetric : (side : Side) (id other : ℕ) → precedes side id other ≡ true → precedes side other id ≡ false
precedes-asymmetric Bid id other before = le-ltb id other (omega (arith, ltb-true other id before))
precedes-asymmetric Ask id other before = le-ltb other id (omega (arith, ltb-true id other before))

-- who stands before another has another id
pub precedes-apart : (side : Side) (id other : ℕ) → precedes side id other ≡ true → id ≢ other
precedes-apart Bid id other before = λ same. omega (arith, ltb-true other id before)
precedes-apart Ask id other before = λ same. omega (arith, ltb-true id other before)

-- where an order crosses, so does every opposite order that stands before it
pub crosses-before : (side : Side) (limit id other : ℕ) → precedes (opposite side) id other ≡ true
    → crosses side limit (price_of other) ≡ true → crosses side limit (price_of id) ≡ true
crosses-before Bid limit id other before crossing =
    le-leb (price_of id) limit (omega (arith, leb-true (price_of other) limit crossing, price_of-monotone id other (ltb-true id other before)))
crosses-before Ask limit id other before crossing =
    le-leb limit (price_of id) (omega (arith, leb-true limit (price_of other) crossing, price_of-monotone other id (ltb-true other id before)))
