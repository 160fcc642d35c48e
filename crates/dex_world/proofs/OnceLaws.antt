-- Addresses of which each stands once; so do the wallets that a row names, and those that it sees.
use Rattle.std.proofs.Common.{◌≡◌, ℕ, ◌+◌, ◌≤◌, Bool, true, false, ◌||◌, cond, List, [], ◌∷◌, Option, None, Some, refl, sym, ap, ◌∙◌, subst, arith, ⊎_elim}
use Rattle.std.specs.List.{All, filter, list_any}
use Rattle.std.proofs.lemmas.Bool.{cases_Bool, cond-false, cond-true, cond_both, false≢true, or_cases, or_left, or_parts, or_right}
use Rattle.std.proofs.lemmas.List.Elements.{All-cons, All-head, All-nil, All-tail, All-weaker}
use Rattle.dex_types.specs.declared.addresses.Address.{Address}
use Rattle.dex_types.specs.Addresses.{is_same}
use Rattle.dex_types.specs.Wallets.{is_lower, with_address, with_role}
use Rattle.dex_laws.proofs.TraderLaws.{is_same-refl, is_same-sym, is_same-true}
use Rattle.dex_history.specs.Journal.{Asked, asked_wallets}
use Rattle.dex_history.proofs.AddressOrder.{AreRising, times, with_address-rising, with_address-times}

-- each address stands there once at most
abbrev pub AreOnce : List Address → Type 0
AreOnce addresses = (address : Address) → times address addresses ≤ 1

-- ---- no row names a wallet twice

-- addresses that rise, each once
abbrev AreOrdered : List Address → Type 0
AreOrdered addresses = AreRising addresses × AreOnce addresses

ordered-with : (role : Option Address) (addresses : List Address) → AreOrdered addresses → AreOrdered (with_role role addresses)
ordered-with None addresses ordered = ordered
ordered-with (Some other) addresses ordered = (
  with_address-rising other addresses ordered.0,
  λ address.
      subst (λ (n : ℕ). n ≤ 1) (sym (with_address-times address other addresses ordered.0))
      (cond_both (is_same address other) 1 (times address addresses) (λ (n : ℕ). n ≤ 1) (λ same. omega arith) (λ apart. ordered.1 address)),
)

pub roles-once : (coin pc discount referrer : Option Address) → AreOnce (with_role coin (with_role pc (with_role discount (with_role referrer []))))
roles-once coin pc discount referrer =
    (ordered-with coin _ (ordered-with pc _ (ordered-with discount _ (ordered-with referrer [] (tt, λ address. omega arith))))).1

pub asked-once : (asked : Asked) → AreOnce (asked_wallets asked)
asked-once asked = roles-once asked.coin asked.pc asked.discount asked.referrer

-- ---- what stands once

pub none-any : (address : Address) (addresses : List Address) → times address addresses ≡ 0 → list_any (is_same address) addresses ≡ false
none-any address [] none = refl
none-any address (first ∷ others) none =
    ⊎_elim
    (λ (same : is_same address first ≡ true).
    absurd (omega (arith, subst (λ (b : Bool). cond b 1 0 + times address others ≡ 0) same none)))
    (λ (apart : is_same address first ≡ false).
    let none_behind : times address others ≡ 0 = omega (arith, subst (λ (b : Bool). cond b 1 0 + times address others ≡ 0) apart none) in
    rw apart (none-any address others none_behind))
    (cases_Bool (is_same address first))

-- so the first stands no more among the others, which stand once too
pub once-tail : (first : Address) (others : List Address) → AreOnce (first ∷ others) → AreOnce others
once-tail first others once = λ address.
    cond_both (is_same address first) 1 0 (λ (n : ℕ). n + times address others ≤ 1 → times address others ≤ 1) (λ same more. omega (arith, more)) (λ apart more. omega (arith, more))
    (once address)

pub once-head : (first : Address) (others : List Address) → AreOnce (first ∷ others) → list_any (is_same first) others ≡ false
once-head first others once =
    none-any first others (omega (arith, subst (λ (b : Bool). cond b 1 0 + times first others ≤ 1) (is_same-refl first) (once first)))

-- an address stands there just where it is one of them
pub times-any : (address : Address) (addresses : List Address) → AreOnce addresses → times address addresses ≡ cond (list_any (is_same address) addresses) 1 0
times-any address [] once = refl
times-any address (first ∷ others) once =
    ⊎_elim
    (λ (same : is_same address first ≡ true).
    let here : times address (first ∷ others) ≤ 1 = once address in
    let one : times address (first ∷ others) ≡ 1 + times address others = ap (λ (b : Bool). cond b 1 0 + times address others) same in
    rw same (omega (arith, here, one)))
    (λ (apart : is_same address first ≡ false). rw apart (omega (arith, times-any address others (once-tail first others once))))
    (cases_Bool (is_same address first))

-- what is kept of one wallet is that wallet, where it stands there
none-kept : (wallet : Address) (addresses : List Address) → list_any (is_same wallet) addresses ≡ false → filter (λ (address : Address). is_same address wallet) addresses ≡ []
none-kept wallet [] none = refl
none-kept wallet (address ∷ addresses) none =
    let kept : List Address = filter (λ (one : Address). is_same one wallet) addresses in
    let parts = or_parts (is_same wallet address) (list_any (is_same wallet) addresses) none in
    cond-false (is_same address wallet) (address ∷ kept) kept (is_same-sym address wallet ∙ parts.0) ∙ none-kept wallet addresses parts.1

pub one-kept : (wallet : Address) (addresses : List Address) → AreOnce addresses
    → filter (λ (address : Address). is_same address wallet) addresses ≡ cond (list_any (is_same wallet) addresses) (wallet ∷ []) []
one-kept wallet [] once = refl
one-kept wallet (address ∷ addresses) once =
    let kept : List Address = filter (λ (one : Address). is_same one wallet) addresses in
    ⊎_elim
    (λ (same : is_same wallet address ≡ true).
    let is : wallet ≡ address = is_same-true wallet address same in
    cond-true (is_same address wallet) (address ∷ kept) kept (is_same-sym address wallet ∙ same)
    ∙ ap (λ (others : List Address). address ∷ others) (none-kept wallet addresses (ap (λ (a : Address). list_any (is_same a) addresses) is ∙ once-head address addresses once))
    ∙ ap (λ (first : Address). first ∷ []) (sym is)
    ∙ sym (ap (λ (b : Bool). cond (b || list_any (is_same wallet) addresses) (wallet ∷ []) []) same))
    (λ (apart : is_same wallet address ≡ false).
    cond-false (is_same address wallet) (address ∷ kept) kept (is_same-sym address wallet ∙ apart)
    ∙ one-kept wallet addresses (once-tail address addresses once)
    ∙ sym (ap (λ (b : Bool). cond (b || list_any (is_same wallet) addresses) (wallet ∷ []) []) apart))
    (cases_Bool (is_same wallet address))

-- ---- what holds of each, and of one more

-- each of some addresses is one of them
pub each-any : (addresses : List Address) → All (λ (address : Address). list_any (is_same address) addresses ≡ true) addresses
each-any [] = All-nil _
each-any (first ∷ others) =
    All-cons (λ (address : Address). list_any (is_same address) (first ∷ others) ≡ true) first others (or_left (is_same first first) (list_any (is_same first) others) (is_same-refl first))
    (All-weaker (λ (address : Address). list_any (is_same address) others ≡ true) (λ (address : Address). list_any (is_same address) (first ∷ others) ≡ true)
    (λ address among. or_right (is_same address first) (list_any (is_same address) others) among) others (each-any others))

-- what holds of each holds of one of them
pub of-any : (P : Address → Type 0) (address : Address) (addresses : List Address) → list_any (is_same address) addresses ≡ true → All P addresses → P address
of-any P address [] any all = absurd (false≢true any)
of-any P address (other ∷ others) any all =
    ⊎_elim (λ (same : is_same address other ≡ true). subst P (sym (is_same-true address other same)) (All-head P other others all))
    (λ (rest : list_any (is_same address) others ≡ true). of-any P address others rest (All-tail P other others all))
    (or_cases (is_same address other) (list_any (is_same address) others) any)

pub with_address-all : (P : Address → Type 0) (address : Address) (addresses : List Address) → P address → All P addresses → All P (with_address address addresses)
with_address-all P address [] here all = All-cons P address [] here (All-nil P)
with_address-all P address (first ∷ others) here all =
    cond_both (is_same address first) (first ∷ others) (cond (is_lower address first) (address ∷ first ∷ others) (first ∷ with_address address others)) (All P)
    (λ same. all)
    (λ apart.
    cond_both (is_lower address first) (address ∷ first ∷ others) (first ∷ with_address address others) (All P)
    (λ lower. All-cons P address (first ∷ others) here all)
    (λ higher. All-cons P first (with_address address others) (All-head P first others all) (with_address-all P address others here (All-tail P first others all))))
