-- the order of addresses, and lists of rising addresses
use Rattle.std.proofs.Common.{ℕ, ◌+◌, ◌≤◌, ◌<◌, ◌≡◌, true, false, ◌&&◌, ltb, eqb, cond, List, [], ◌∷◌, refl, sym, ap, ◌∙◌, subst, arith, ⊎_elim, ◌⊎◌, inl, inr}
use Rattle.std.specs.List.{All}
use Rattle.std.proofs.lemmas.Bool.{cases_Bool, cases_lt, cond_both, cond-true, cond-false, and_parts, and_from, or_cases, or_parts, or_left, or_right, and_cases, ltb-true, ltb-false, lt-ltb, le-ltb, eqb-true, eqb-false, eq-eqb, false≢true, false_from_ne_true}
use Rattle.std.proofs.lemmas.List.Elements.{All-nil, All-cons, All-head, All-tail, All-weaker}
use Rattle.dex_types.specs.declared.addresses.Address.{Address}
use Rattle.dex_types.specs.Addresses.{is_same}
use Rattle.dex_types.specs.Totals.{total}
use Rattle.dex_types.specs.Wallets.{is_less, is_lower, with_address}
use Rattle.dex_laws.proofs.TraderLaws.{is_same-true, is_same-refl}

-- no byte string is less than itself
is_less-irreflexive : (bytes : List ℕ) → is_less bytes bytes ≡ false
is_less-irreflexive [] = refl
is_less-irreflexive (byte ∷ bytes) =
    let not_less : ltb byte byte ≡ false = le-ltb byte byte (omega arith) in
    let same : eqb byte byte ≡ true = eq-eqb byte byte refl in
    rw (not_less, same) (is_less-irreflexive bytes)

-- where the first bytes decide, and where they are equal
is_less-first : (byte other : ℕ) (bytes others : List ℕ) → byte < other → is_less (byte ∷ bytes) (other ∷ others) ≡ true
is_less-first byte other bytes others below = or_left (ltb byte other) (eqb byte other && is_less bytes others) (lt-ltb byte other below)

is_less-rest : (byte other : ℕ) (bytes others : List ℕ) → byte ≡ other → is_less bytes others ≡ true → is_less (byte ∷ bytes) (other ∷ others) ≡ true
is_less-rest byte other bytes others same less =
    or_right (ltb byte other) (eqb byte other && is_less bytes others) (and_from (eqb byte other) (is_less bytes others) (eq-eqb byte other same) less)

is_less-cases : (byte other : ℕ) (bytes others : List ℕ) → is_less (byte ∷ bytes) (other ∷ others) ≡ true → (byte < other) ⊎ ((byte ≡ other) × (is_less bytes others ≡ true))
is_less-cases byte other bytes others less =
    ⊎_elim (λ (below : ltb byte other ≡ true). inl (ltb-true byte other below))
    (λ (rest : (eqb byte other && is_less bytes others) ≡ true).
    let parts : (eqb byte other ≡ true) × (is_less bytes others ≡ true) = and_parts (eqb byte other) (is_less bytes others) rest in
    inr (eqb-true byte other parts.0, parts.1))
    (or_cases (ltb byte other) (eqb byte other && is_less bytes others) less)

is_less-transitive : (first next last : List ℕ) → is_less first next ≡ true → is_less next last ≡ true → is_less first last ≡ true
is_less-transitive first [] [] less more = absurd (false≢true more)
is_less-transitive [] [] (z ∷ last) less more = absurd (false≢true less)
is_less-transitive (x ∷ first) [] last less more = absurd (false≢true less)
is_less-transitive [] (y ∷ next) [] less more = absurd (false≢true more)
is_less-transitive [] (y ∷ next) (z ∷ last) less more = refl
is_less-transitive (x ∷ first) (y ∷ next) [] less more = absurd (false≢true more)
is_less-transitive (x ∷ first) (y ∷ next) (z ∷ last) less more =
    ⊎_elim
    (λ (below : x < y).
    ⊎_elim (λ (above : y < z). is_less-first x z first last (omega arith))
    (λ (same : (y ≡ z) × (is_less next last ≡ true)). is_less-first x z first last (omega (arith, same.0)))
    (is_less-cases y z next last more))
    (λ (same : (x ≡ y) × (is_less first next ≡ true)).
    ⊎_elim (λ (above : y < z). is_less-first x z first last (omega (arith, same.0)))
    (λ (again : (y ≡ z) × (is_less next last ≡ true)). is_less-rest x z first last (same.0 ∙ again.0) (is_less-transitive first next last same.1 again.1))
    (is_less-cases y z next last more))
    (is_less-cases x y first next less)

-- of two byte strings that differ one is less
is_less-total : (bytes others : List ℕ) → is_less bytes others ≡ false → (bytes ≡ others) ⊎ (is_less others bytes ≡ true)
is_less-total [] [] not = inl refl
is_less-total [] (other ∷ others) not = absurd (false≢true (sym not))
is_less-total (byte ∷ bytes) [] not = inr refl
is_less-total (byte ∷ bytes) (other ∷ others) not =
    let parts : (ltb byte other ≡ false) × ((eqb byte other && is_less bytes others) ≡ false) = or_parts (ltb byte other) (eqb byte other && is_less bytes others) not in
    ⊎_elim (λ (below : other < byte). inr (is_less-first other byte others bytes below))
    (λ (above : byte ≤ other).
    let same : byte ≡ other = omega (arith, ltb-false byte other parts.0) in
    ⊎_elim (λ (apart : eqb byte other ≡ false). absurd (eqb-false byte other apart same))
    (λ (rest : is_less bytes others ≡ false).
    ⊎_elim (λ (equal : bytes ≡ others). inl (ap (λ b. b ∷ bytes) same ∙ ap (λ bs. other ∷ bs) equal))
    (λ (less : is_less others bytes ≡ true). inr (is_less-rest other byte others bytes (sym same) less))
    (is_less-total bytes others rest))
    (and_cases (eqb byte other) (is_less bytes others) parts.1))
    (cases_lt other byte)

-- of two addresses that differ one is lower
is_lower-total : (address other : Address) → is_same address other ≡ false → is_lower address other ≡ false → is_lower other address ≡ true
is_lower-total address other apart not =
    ⊎_elim
    (λ (same : address.0 ≡ other.0).
    let with_bytes : List ℕ → Address = λ bytes. record { 0 = bytes } in
    let one : address ≡ other = ap with_bytes same in
    absurd (false≢true (sym apart ∙ ap (is_same address) (sym one) ∙ is_same-refl address)))
    (λ (lower : is_less other.0 address.0 ≡ true). lower)
    (is_less-total address.0 other.0 not)

is_lower-apart : (address other : Address) → is_lower address other ≡ true → is_same address other ≡ false
is_lower-apart address other lower =
    false_from_ne_true (is_same address other) (λ same.
    false≢true (sym (is_less-irreflexive address.0) ∙ ap (λ (a : Address). is_less address.0 a.0) (is_same-true address other same) ∙ lower))

-- rising addresses
abbrev pub AreRising : List Address → Type 0
AreRising [] = Unit {0}
AreRising (first ∷ others) = All (λ (other : Address). is_lower first other ≡ true) others × AreRising others

-- how often an address stands there
abbrev pub times : Address → List Address → ℕ
times address addresses = total (λ (other : Address). cond (is_same address other) 1 0) addresses

-- one that is lower than all of these is none of them
times-lower : (address : Address) (addresses : List Address) → All (λ (other : Address). is_lower address other ≡ true) addresses → times address addresses ≡ 0
times-lower address [] lower = refl
times-lower address (first ∷ others) lower =
    let IsAbove : Address → Type 0 = λ other. is_lower address other ≡ true in
    let apart : is_same address first ≡ false = is_lower-apart address first (All-head IsAbove first others lower) in
    rw apart (omega (arith, times-lower address others (All-tail IsAbove first others lower)))

-- an address in its place
with-All : (P : Address → Type 0) (address : Address) (addresses : List Address) → P address → All P addresses → All P (with_address address addresses)
with-All P address [] here all = All-cons P address [] here (All-nil P)
with-All P address (first ∷ others) here all =
    cond_both (is_same address first) (first ∷ others) (cond (is_lower address first) (address ∷ first ∷ others) (first ∷ with_address address others)) (All P)
    (λ same. all)
    (λ apart.
    cond_both (is_lower address first) (address ∷ first ∷ others) (first ∷ with_address address others) (All P)
    (λ lower. All-cons P address (first ∷ others) here all)
    (λ higher. All-cons P first (with_address address others) (All-head P first others all) (with-All P address others here (All-tail P first others all))))

above-all : (address first : Address) (others : List Address) → is_lower address first ≡ true → All (λ (other : Address). is_lower first other ≡ true) others
    → All (λ (other : Address). is_lower address other ≡ true) (first ∷ others)
above-all address first others lower all =
    All-cons (λ (other : Address). is_lower address other ≡ true) first others lower
    (All-weaker (λ (other : Address). is_lower first other ≡ true) (λ (other : Address). is_lower address other ≡ true)
    (λ other higher. is_less-transitive address.0 first.0 other.0 lower higher) others all)

pub with_address-rising : (address : Address) (addresses : List Address) → AreRising addresses → AreRising (with_address address addresses)
with_address-rising address [] rising = (All-nil _, tt)
with_address-rising address (first ∷ others) rising =
    cond_both (is_same address first) (first ∷ others) (cond (is_lower address first) (address ∷ first ∷ others) (first ∷ with_address address others)) AreRising
    (λ same. rising)
    (λ apart.
    cond_both (is_lower address first) (address ∷ first ∷ others) (first ∷ with_address address others) AreRising
    (λ lower. (above-all address first others lower rising.0, rising))
    (λ higher. (
      with-All (λ (other : Address). is_lower first other ≡ true) address others (is_lower-total address first apart higher) rising.0,
      with_address-rising address others rising.1,
    )))

-- stands there once
pub with_address-times : (owner address : Address) (addresses : List Address) → AreRising addresses
    → times owner (with_address address addresses) ≡ cond (is_same owner address) 1 (times owner addresses)
with_address-times owner address [] rising = cond_both (is_same owner address) 1 0 (λ count. count + 0 ≡ count) (λ same. refl) (λ apart. refl)
with_address-times owner address (first ∷ others) rising =
    cond_both (is_same address first) (first ∷ others) (cond (is_lower address first) (address ∷ first ∷ others) (first ∷ with_address address others))
    (λ list. times owner list ≡ cond (is_same owner address) 1 (times owner (first ∷ others)))
    (λ same.
    let is : address ≡ first = is_same-true address first same in
    ⊎_elim
    (λ (mine : is_same owner address ≡ true).
    let here : is_same owner first ≡ true = subst (λ a. is_same owner a ≡ true) is mine in
    let it : owner ≡ first = is_same-true owner first here in
    let none : times owner others ≡ 0 = subst (λ a. times a others ≡ 0) (sym it) (times-lower first others rising.0) in
    rw (here, mine) (omega (arith, none)))
    (λ (not : is_same owner address ≡ false). rw not refl)
    (cases_Bool (is_same owner address)))
    (λ apart.
    cond_both (is_lower address first) (address ∷ first ∷ others) (first ∷ with_address address others)
    (λ list. times owner list ≡ cond (is_same owner address) 1 (times owner (first ∷ others)))
    (λ lower.
    ⊎_elim
    (λ (mine : is_same owner address ≡ true).
    let it : owner ≡ address = is_same-true owner address mine in
    let none : times owner (first ∷ others) ≡ 0 = subst (λ a. times a (first ∷ others) ≡ 0) (sym it) (times-lower address (first ∷ others) (above-all address first others lower rising.0)) in
    rw mine (omega (arith, none)))
    (λ (not : is_same owner address ≡ false). rw not (omega arith))
    (cases_Bool (is_same owner address)))
    (λ higher.
    let rest : times owner (with_address address others) ≡ cond (is_same owner address) 1 (times owner others) = with_address-times owner address others rising.1 in
    ⊎_elim
    (λ (mine : is_same owner address ≡ true).
    let it : owner ≡ address = is_same-true owner address mine in
    let away : is_same owner first ≡ false = subst (λ a. is_same a first ≡ false) (sym it) apart in
    let one : times owner (with_address address others) ≡ 1 = rest ∙ cond-true (is_same owner address) 1 (times owner others) mine in
    rw (mine, away) (omega (arith, one)))
    (λ (not : is_same owner address ≡ false).
    let same : times owner (with_address address others) ≡ times owner others = rest ∙ cond-false (is_same owner address) 1 (times owner others) not in
    rw not (omega (arith, same)))
    (cases_Bool (is_same owner address))))
