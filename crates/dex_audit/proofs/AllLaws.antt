-- what holds of all items that open accounts and slots give
use Rattle.std.proofs.Common.{◌≡◌, ℕ, suc, ◌+◌, ◌<◌, ◌⊎◌, inl, inr, Bool, true, false, List, [], ◌∷◌, ◌++◌, length, get_or, Option, Some, None, refl, sym, ap, ◌∙◌, subst, arith}
use Rattle.std.specs.List.{All, flat_map}
use Rattle.std.proofs.lemmas.Bool.{false≢true}
use Rattle.std.proofs.lemmas.List.{get_or_default}
use Rattle.std.proofs.lemmas.List.Elements.{All-nil, All-cons, All-head, All-tail, All-append}
use Rattle.dex_types.specs.declared.addresses.Address.{Address}
use Rattle.dex_types.specs.Addresses.{is_same}
use Rattle.dex_types.specs.Soundness.{AreDistinct, held_at, held_by}
use Rattle.dex_types.specs.Trader.{Account, Holding, Trader, Blank, Closed, Open, Traders, trader_at}
use Rattle.dex_laws.proofs.TraderLaws.{is_same-refl, is_same-true, trader_at-here, trader_at-there}
use Rattle.dex_audit_rules.specs.declared.finding.Finding.{Finding}
use Rattle.dex_audit_rules.specs.declared.taken.Taken.{Taken}
use Rattle.dex_audit_rules.specs.Lists.{numbered, unless}
use Rattle.dex_audit_rules.specs.Slots.{of_open, taken_here, taken_in}
use Rattle.dex_audit.proofs.SlotLaws.{listed}

-- ---- lists

-- no item of a list meets what nothing meets
pub nothing : {X : Type 0} (xs : List X) → All (λ (x : X). ⊥) xs → xs ≡ []
nothing [] none = refl
nothing (x ∷ xs) none = absurd (none 0 x (omega arith))

pub none-of : {X : Type 0} (xs : List X) → xs ≡ [] → All (λ (x : X). ⊥) xs
none-of xs is = subst (λ (l : List _). All (λ x. ⊥) l) (sym is) (All-nil (λ x. ⊥))

pub unless-holds : (holds : Bool) (finding : Finding) → holds ≡ true → unless holds finding ≡ []
unless-holds true finding is = refl
unless-holds false finding is = absurd (false≢true is)

pub none-append : {X : Type 0} (xs ys : List X) → xs ≡ [] → ys ≡ [] → xs ++ ys ≡ []
none-append xs ys first second = rw first second

pub flat_map-all : {X Y : Type 0} (P : Y → Type 0) (f : X → List Y) (xs : List X) → All (λ (x : X). All P (f x)) xs → All P (flat_map f xs)
flat_map-all P f [] all = All-nil P
flat_map-all P f (x ∷ xs) all =
    All-append P (f x) (flat_map f xs) (All-head (λ y. All P (f y)) x xs all) (flat_map-all P f xs (All-tail (λ y. All P (f y)) x xs all))

pub flat_map-nothing : {X Y : Type 0} (f : X → List Y) (xs : List X) → All (λ (x : X). f x ≡ []) xs → flat_map f xs ≡ []
flat_map-nothing f [] all = refl
flat_map-nothing f (x ∷ xs) all = rw (All-head (λ y. f y ≡ []) x xs all) (flat_map-nothing f xs (All-tail (λ y. f y ≡ []) x xs all))

pub numbered-all : {X Y : Type 0} (P : Y → Type 0) (f : ℕ → X → List Y) (first : ℕ) (xs : List X)
    → ((i : ℕ) (d : X) → i < length xs → All P (f (first + i) (get_or xs i d))) → All P (numbered f first xs)
numbered-all P f first [] each = All-nil P
numbered-all P f first (x ∷ xs) each =
    let none : first + 0 ≡ first = omega arith in
    All-append P (f first x) (numbered f (first + 1) xs) (subst (λ (n : ℕ). All P (f n x)) none (each 0 x (omega arith)))
    (numbered-all P f (first + 1) xs
    (λ i d lt.
    let at : first + suc i ≡ (first + 1) + i = omega arith in
    subst (λ (n : ℕ). All P (f n (get_or xs i d))) at (each (suc i) d (omega arith))))

-- what holds of each item at its place holds of all that are numbered from 0
pub numbered-each : {X Y : Type 0} (P : Y → Type 0) (f : ℕ → X → List Y) (xs : List X) → ((i : ℕ) (d : X) → i < length xs → All P (f i (get_or xs i d))) → All P (numbered f 0 xs)
numbered-each P f xs each =
    numbered-all P f 0 xs
    (λ i d lt.
    let at : i ≡ 0 + i = omega arith in
    subst (λ (n : ℕ). All P (f n (get_or xs i d))) at (each i d lt))

pub numbered-nothing : {X Y : Type 0} (f : ℕ → X → List Y) (xs : List X) → ((i : ℕ) (d : X) → i < length xs → f i (get_or xs i d) ≡ []) → numbered f 0 xs ≡ []
numbered-nothing f xs each = nothing (numbered f 0 xs) (numbered-each (λ y. ⊥) f xs (λ i d lt. none-of (f i (get_or xs i d)) (each i d lt)))

-- ---- open accounts

module _ {Y : Type 0} (P : Y → Type 0) (give : Address → Account → List Y) where
  of_open-all : (owner : Address) (trader : Trader) → ((account : Account) → trader ≡ Open account → All P (give owner account)) → All P (of_open (give owner) trader)
  of_open-all owner Blank each = All-nil P
  of_open-all owner Closed each = All-nil P
  of_open-all owner (Open account) each = each account refl

  -- what holds of all that each open account gives
  pub open-all : (traders : Traders) → AreDistinct traders
      → ((owner : Address) (account : Account) → trader_at owner traders ≡ Some (Open account) → All P (give owner account))
      → All P (flat_map (λ (entry : Address × Trader). of_open (give entry.0) entry.1) traders)
  open-all [] apart each = All-nil P
  open-all (entry ∷ others) apart each =
      All-append P (of_open (give entry.0) entry.1) (flat_map (λ (entry : Address × Trader). of_open (give entry.0) entry.1) others)
      (of_open-all entry.0 entry.1
      (λ account is. each entry.0 account (trader_at-here entry.0 entry others (is_same-refl entry.0) ∙ ap (λ (t : Trader). Some t) is)))
      (open-all others apart.1 (λ owner account found. each owner account (later owner account found)))
    where
      by_test : (b : Bool) → (b ≡ true) ⊎ (b ≡ false)
      by_test true = inl refl
      by_test false = inr refl

      later : (owner : Address) (account : Account) → trader_at owner others ≡ Some (Open account) → trader_at owner (entry ∷ others) ≡ Some (Open account)
      later owner account found =
          elim (by_test (is_same owner entry.0)) [
            | inl same ↦
                let none : trader_at owner others ≡ None = ap (λ (a : Address). trader_at a others) (is_same-true owner entry.0 same) ∙ apart.0 in
                let both : Some (Open account) ≡ None = sym found ∙ none in
                absurd (cc)
            | inr not_same ↦ trader_at-there owner entry others not_same ∙ found
          ]

pub open-nothing : {Y : Type 0} (give : Address → Account → List Y) (traders : Traders) → AreDistinct traders
    → ((owner : Address) (account : Account) → trader_at owner traders ≡ Some (Open account) → give owner account ≡ [])
    → flat_map (λ (entry : Address × Trader). of_open (give entry.0) entry.1) traders ≡ []
open-nothing give traders apart each =
    nothing (flat_map (λ (entry : Address × Trader). of_open (give entry.0) entry.1) traders)
    (open-all (λ y. ⊥) give traders apart (λ owner account found. none-of (give owner account) (each owner account found)))

-- ---- taken slots

pub taken_here-all : (P : Taken → Type 0) (owner : Address) (slot : ℕ) (held : Option Holding) → ((holding : Holding) → held ≡ Some holding → P (listed owner slot holding))
    → All P (taken_here owner slot held)
taken_here-all P owner slot None each = All-nil P
taken_here-all P owner slot (Some holding) each = All-cons P (listed owner slot holding) [] (each holding refl) (All-nil P)

-- what holds of each slot that is held, holds of the taken slots
pub taken-all : (P : Taken → Type 0) (traders : Traders) → AreDistinct traders
    → ((owner : Address) (slot : ℕ) (holding : Holding) → held_at owner slot traders ≡ Some holding → P (listed owner slot holding)) → All P (taken_in traders)
taken-all P traders apart each =
    open-all P (λ owner account. numbered (taken_here owner) 0 account.slots) traders apart
    (λ owner account found.
    numbered-each P (taken_here owner) account.slots
    (λ slot d lt.
    taken_here-all P owner slot (get_or account.slots slot d)
    (λ holding here.
    each owner slot holding
    (ap (λ (t : Option Trader). held_by t slot) found ∙ get_or_default account.slots slot None d lt ∙ here))))
