-- What a check tells, and that a sound market has no flaw.
use Rattle.std.proofs.Common.{◌≡◌, ◌↔◌, ◌≤◌, ◌<◌, ◌+◌, ◌∙◌, ℕ, List, [], ◌∷◌, ◌++◌, length, map, take, drop, get_or, true, false, Option, Some, None, All, arith, refl, sym, ap, subst, inl, inr}
use Rattle.std.specs.Prelude.{slice_get, is_some}
use Rattle.std.proofs.lemmas.Bool.{cases_Bool}
use Rattle.std.proofs.lemmas.List.{drop_more, get_or-map, length-map, take-append-drop, take_more}
use Rattle.std.proofs.lemmas.List.Elements.{All-cons, All-head, All-nil}
use Rattle.dex_fields.proofs.Rules.{cond_none}
use Rattle.dex_types.specs.declared.addresses.Address.{Address}
use Rattle.dex_types.specs.declared.faults.AccountFault.{AccountFault}
use Rattle.dex_types.specs.declared.account_bytes.OrdersAccount.{OrdersAccount}
use Rattle.dex_types.specs.Accounts.{PlainAccount, PlainMarketAccounts, orders_account_of}
use Rattle.dex_types.specs.Addresses.{is_same}
use Rattle.dex_types.specs.Soundness.{AreDistinct}
use Rattle.dex_types.specs.Trader.{trader_at}
use Rattle.dex_laws.proofs.TraderLaws.{is_same-refl}
use Rattle.dex_orders.specs.StandsFor.{traders_of}
use Rattle.dex_accounts.specs.Accepted.{IsAccepted}
use Rattle.dex_accounts.specs.Decoded.{AreSound, market_in}
use Rattle.dex_state.specs.Addresses.{address_of, times}
use Rattle.dex_state.specs.Held.{IsHeldMarket}
use Rattle.dex_state.proofs.Times.{one, times-append, times-cons, times-same}
use Rattle.dex_dump.specs.Checks.{AccountCheck, AllHold, Check, Fails, FirstFails, Holds, Rules, Slab, market_checks}
use Rattle.dex_dump.specs.Reading.{is_among}
use Rattle.dex_dump.proofs.TakenLaws.{times-new}
use Rattle.dex_audit.proofs.OnceLaws.{distinct-of}
use Rattle.dex_audit.specs.Findings.{market_findings}
use Rattle.dex_audit_rules.specs.declared.finding.Finding.{Finding}
use Rattle.dex_check.specs.declared.flaw.Flaw.{Flaw}
use Rattle.dex_check.specs.declared.flaw.Flaw.TheVariants.{Fault, Found, Twice}
use Rattle.dex_check.specs.Flaws.{AreOnce, Tells, TellsFound}

-- ---- what the laws below say

abbrev pub Checked : Type 0
Checked = (accounts : PlainMarketAccounts) → length accounts.address.0 ≡ 32 → AllHold (market_checks accounts) ↔ IsAccepted accounts

abbrev pub Audited : Type 0
Audited = (markets : List PlainMarketAccounts) → All IsAccepted markets → All (λ (m : PlainMarketAccounts). AreDistinct (traders_of m.orders)) markets
    → All IsHeldMarket markets → (market_findings markets ≡ []) ↔ All AreSound markets

-- ---- addresses

none-there : (address : Address) (accounts : List PlainAccount) → trader_at address (traders_of accounts) ≡ None → times address (map address_of accounts) ≡ 0
none-there address [] none = refl
none-there address (account ∷ accounts) none =
    let parts = cond_none (is_same address account.address) _ (trader_at address (traders_of accounts)) none in
    let first : one address account.address ≡ 0 = rw parts.0 refl in
    times-cons address account.address (map address_of accounts) ∙ rw (first, none-there address accounts parts.1) refl

distinct-once : (accounts : List PlainAccount) → AreDistinct (traders_of accounts) → AreOnce accounts
distinct-once [] apart address = omega arith
distinct-once (account ∷ accounts) apart address = elim (cases_Bool (is_same address account.address)) [
  | inl same ↦
      let none = times-same address account.address (map address_of accounts) same ∙ none-there account.address accounts apart.0 in
      let first : one address account.address ≡ 1 = rw same refl in
      omega (arith, times-cons address account.address (map address_of accounts))
  | inr other ↦
      let first : one address account.address ≡ 0 = rw other refl in
      omega (arith, times-cons address account.address (map address_of accounts), distinct-once accounts apart.1 address)
]

-- one that is among them stands there
among-times : (address : Address) (xs : List Address) → is_among address xs ≡ true → 1 ≤ times address xs
among-times address [] found = absurd cc
among-times address (x ∷ xs) found = elim (cases_Bool (is_same address x)) [
  | inl same ↦
      let first : one address x ≡ 1 = rw same refl in
      omega (arith, times-cons address x xs)
  | inr other ↦
      let rest = rw other at found in
      omega (arith, times-cons address x xs, among-times address xs rest)
]

-- an address that is among those before a place, and stands there
pub twice-there : (all : List Address) (place : ℕ) (address : Address) (taken : List Address) → place < length all → get_or all place address ≡ address
    → taken ≡ take place all → is_among address taken ≡ true → 2 ≤ times address all
twice-there all place address taken lt here is found =
    let first : one address address ≡ 1 = rw (is_same-refl address) refl in
    let before : 1 ≤ times address (take place all) = among-times address (take place all) (ap (is_among address) (sym is) ∙ found) in
    let rest : drop place all ≡ address ∷ drop (place + 1) all =
    drop_more all place address lt ∙ ap (λ (a : Address). a ∷ drop (place + 1) all) here in
    let split : times address all ≡ times address (take place all) + times address (address ∷ drop (place + 1) all) =
    ap (times address) (sym (take-append-drop place all)) ∙ times-append address (take place all) (drop place all)
    ∙ ap (λ (l : List Address). times address (take place all) + times address l) rest in
    omega (arith, split, times-cons address address (drop (place + 1) all))

-- one more that is not among them
pub taken-more : (all : List Address) (place : ℕ) (address : Address) (taken after : List Address) → place < length all → get_or all place address ≡ address
    → taken ≡ take place all → after ≡ taken ++ address ∷ [] → after ≡ take (place + 1) all
taken-more all place address taken after lt here is more =
    more ∙ ap (λ (l : List Address). l ++ address ∷ []) is ∙ ap (λ (a : Address). take place all ++ a ∷ []) (sym here) ∙ sym (take_more all place address lt)

pub once-more : (address : Address) (taken after : List Address) → is_among address taken ≡ false → after ≡ taken ++ address ∷ []
    → ((other : Address) → times other taken ≤ 1) → (other : Address) → times other after ≤ 1
once-more address taken after new more once other =
    subst (λ (l : List Address). times other l ≤ 1) (sym more) (times-new other taken (address ∷ []) (new, tt) (refl, tt) (once other))

-- the address of an account at a place
pub address-at : (accounts : List OrdersAccount) (place : ℕ) (account : OrdersAccount) (address : Address) → place < length accounts
    → get_or (map address_of (map orders_account_of accounts)) place address ≡ (get_or accounts place account).address
address-at accounts place account address lt =
    let plain : PlainAccount = orders_account_of account in
    get_or-map address_of (map orders_account_of accounts) place plain address (omega (arith, length-map accounts orders_account_of))
    ∙ ap address_of (get_or-map orders_account_of accounts place account plain lt)

-- ---- a sound market

alone : (P : PlainMarketAccounts → Type 0) (accounts : PlainMarketAccounts) → P accounts → All P (accounts ∷ [])
alone P accounts is = All-cons P accounts [] is (All-nil P)

no-first : (findings : List Finding) → None ≡ slice_get findings 0 → findings ≡ []
no-first [] none = refl
no-first (finding ∷ others) none = absurd cc

-- where an audit finds nothing the market is sound
pub sound-from : Audited → (accounts : PlainMarketAccounts) → IsHeldMarket accounts → IsAccepted accounts → AreOnce accounts.orders → TellsFound None accounts → AreSound accounts
sound-from audited accounts held accepted once none =
    let distinct = distinct-of accounts.orders once in
    All-head AreSound accounts []
    ((audited (accounts ∷ []) (alone IsAccepted accounts accepted) (alone (λ (m : PlainMarketAccounts). AreDistinct (traders_of m.orders)) accounts distinct)
    (alone IsHeldMarket accounts held)).0 (no-first (market_findings (accounts ∷ [])) none))

-- a check that holds does not fail
holds-fails : (check : Check) (fault : AccountFault) → Holds check → Fails check fault → ⊥
holds-fails (Rules found) fault holds fails = absurd (let both = sym holds ∙ fails in cc)
holds-fails (Slab bytes) fault holds fails = fails.0 holds

all-first : (checks : List AccountCheck) (account : Address) (fault : AccountFault) → AllHold checks → FirstFails checks account fault → ⊥
all-first [] account fault hold fails = fails
all-first (first ∷ others) account fault hold (inl here) = holds-fails first.check fault hold.0 here.1
all-first (first ∷ others) account fault hold (inr later) = all-first others account fault hold.1 later.1

distinct-in : (accounts : PlainMarketAccounts) → AreSound accounts → AreDistinct (traders_of accounts.orders)
unfolding market_in
distinct-in accounts sound = sound.sound.form.distinct

pub no-flaw : Checked → Audited → (accounts : PlainMarketAccounts) (flaw : Flaw) → IsHeldMarket accounts → IsAccepted accounts → AreSound accounts → ¬ Tells (Some flaw) accounts
no-flaw checked audited accounts (Fault account fault) held accepted sound told =
    all-first (market_checks accounts) account fault ((checked accounts held.address.size).1 accepted) told
no-flaw checked audited accounts (Twice address) held accepted sound told =
    let few = distinct-once accounts.orders (distinct-in accounts sound) address in
    let many = told.1 in
    absurd (omega arith)
no-flaw checked audited accounts (Found finding) held accepted sound told =
    let none = (audited (accounts ∷ []) (alone IsAccepted accounts accepted)
    (alone (λ (m : PlainMarketAccounts). AreDistinct (traders_of m.orders)) accounts (distinct-in accounts sound)) (alone IsHeldMarket accounts held)).1
    (alone AreSound accounts sound) in
    absurd (let first = told.2 ∙ ap (λ (l : List Finding). slice_get l 0) none in cc)

-- what a check tells says exactly whether the accounts are those of a sound market
pub exactly-told : ((accounts : PlainMarketAccounts) (flaw : Flaw) → IsHeldMarket accounts → IsAccepted accounts → AreSound accounts → ¬ Tells (Some flaw) accounts)
    → (told : Option Flaw) (accounts : PlainMarketAccounts) → IsHeldMarket accounts → Tells told accounts
    → (is_some told ≡ false) ↔ (IsAccepted accounts × AreSound accounts)
exactly-told law None accounts held tells = (λ none. tells, λ is. refl)
exactly-told law (Some flaw) accounts held tells = (λ none. absurd cc, λ is. absurd (law accounts flaw held is.0 is.1 tells))
