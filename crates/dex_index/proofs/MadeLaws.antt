-- An index that is made address by address leads to all accounts, from the last to the first.
use Rattle.std.proofs.Common.{◌≡◌, ℕ, suc, zero, ◌-◌, ◌<◌, ◌≤◌, true, false, List, [], ◌∷◌, length, map, Option, Some, None, get_or, drop, cond, refl, sym, ap, ◌∙◌, subst, arith, ⊎_elim}
use Rattle.std.proofs.lemmas.Bool.{cases_Bool, cond-true, cond-false, eq-eqb}
use Rattle.std.proofs.lemmas.List.{get_or-map, length-map}
use Rattle.dex_types.specs.declared.account_bytes.OrdersAccount.{OrdersAccount}
use Rattle.dex_types.specs.declared.addresses.Address.{Address}
use Rattle.dex_types.specs.Accounts.{PlainAccount, orders_account_of}
use Rattle.dex_types.specs.Addresses.{is_same}
use Rattle.dex_types.specs.Soundness.{AreDistinct}
use Rattle.dex_types.specs.Trader.{trader_at}
use Rattle.dex_laws.proofs.TraderLaws.{is_same-refl}
use Rattle.dex_orders.specs.StandsFor.{trader_of, traders_of}
use Rattle.dex_index.specs.Reached.{LeadsToAll, is_place}

-- the accounts from a place on
pub drop-at : (accounts : List PlainAccount) (place : ℕ) (default : PlainAccount) → place < length accounts
    → drop place accounts ≡ get_or accounts place default ∷ drop (suc place) accounts
drop-at [] place default lt = absurd (omega arith)
drop-at (first ∷ others) zero default lt = refl
drop-at (first ∷ others) (suc place) default lt = drop-at others place default (omega arith)

-- each of them has an address of its own
distinct-drop : (accounts : List PlainAccount) (place : ℕ) → AreDistinct (traders_of accounts) → AreDistinct (traders_of (drop place accounts))
distinct-drop [] zero distinct = distinct
distinct-drop [] (suc place) distinct = distinct
distinct-drop (first ∷ others) zero distinct = distinct
distinct-drop (first ∷ others) (suc place) distinct = distinct-drop others place distinct.1

-- an address at which no account stands is not the first one's, nor one of the others'
apart-first : (address : Address) (first : PlainAccount) (others : List PlainAccount) → trader_at address (traders_of (first ∷ others)) ≡ None
    → is_same address first.address ≡ false
apart-first address first others none =
    ⊎_elim
    (λ (same : is_same address first.address ≡ true).
    let here : trader_at address (traders_of (first ∷ others)) ≡ Some (trader_of first.bytes) = cond-true _ _ _ same in
    absurd (let two : Some (trader_of first.bytes) ≡ None = sym here ∙ none in cc))
    (λ (apart : is_same address first.address ≡ false). apart)
    (cases_Bool (is_same address first.address))

apart-others : (address : Address) (first : PlainAccount) (others : List PlainAccount) → trader_at address (traders_of (first ∷ others)) ≡ None
    → trader_at address (traders_of others) ≡ None
apart-others address first others none =
    let there : trader_at address (traders_of (first ∷ others)) ≡ trader_at address (traders_of others) = cond-false _ _ _ (apart-first address first others none) in
    sym there ∙ none

-- the address of each of these is found at its place
abbrev AreFound : (Address → Option ℕ) → ℕ → List PlainAccount → Type 0
AreFound find at accounts = LeadsToAll (λ address. is_place (find address)) at accounts

module _ (find next : Address → Option ℕ) (address : Address) (at : ℕ) (put : (other : Address) → next other ≡ cond (is_same address other) (Some at) (find other)) where
  -- what leads to accounts of other addresses leads to them still
  leads-still : (accounts : List PlainAccount) (from : ℕ) → trader_at address (traders_of accounts) ≡ None → AreFound find from accounts → AreFound next from accounts
  leads-still [] from none leads = tt
  leads-still (first ∷ others) from none leads = (
    ap (λ (found : Option ℕ). is_place found from) (put first.address ∙ cond-false _ _ _ (apart-first address first others none)) ∙ leads.0,
    leads-still others (suc from) (apart-others address first others none) leads.1,
  )

-- with the address of one account more in front of these
leads-more : (find next : Address → Option ℕ) (accounts : List PlainAccount) (place : ℕ) (default : PlainAccount) → place < length accounts
    → AreDistinct (traders_of accounts) → AreFound find (suc place) (drop (suc place) accounts)
    → ((other : Address) → next other ≡ cond (is_same (get_or accounts place default).address other) (Some place) (find other))
    → AreFound next place (drop place accounts)
leads-more find next accounts place default lt distinct leads put =
    let here : PlainAccount = get_or accounts place default in
    let split = drop-at accounts place default lt in
    let apart : AreDistinct (traders_of (here ∷ drop (suc place) accounts)) =
    subst (λ (l : List PlainAccount). AreDistinct (traders_of l)) split (distinct-drop accounts place distinct) in
    subst (AreFound next place) (sym split) (
      ap (λ (found : Option ℕ). is_place found place) (put here.address ∙ cond-true _ _ _ (is_same-refl here.address)) ∙ eq-eqb place place refl,
      leads-still find next here.address place put (drop (suc place) accounts) (suc place) apart.0 leads,
    )

pub put-leads : (find next : Address → Option ℕ) (accounts : List OrdersAccount) (place : ℕ) (default : OrdersAccount) → 0 < place → place ≤ length accounts
    → AreDistinct (traders_of (map orders_account_of accounts)) → AreFound find place (drop place (map orders_account_of accounts))
    → ((other : Address) → next other ≡ cond (is_same (get_or accounts (place - 1) default).address other) (Some (place - 1)) (find other))
    → AreFound next (place - 1) (drop (place - 1) (map orders_account_of accounts))
put-leads find next accounts place default some within distinct leads put =
    let plain = map orders_account_of accounts in
    let again : place ≡ suc (place - 1) = omega (arith, some) in
    let lt : place - 1 < length accounts = omega (arith, some, within) in
    let behind = subst (λ (n : ℕ). AreFound find n (drop n plain)) again leads in
    let here = sym (get_or-map orders_account_of accounts (place - 1) default (orders_account_of default) lt) in
    leads-more find next plain (place - 1) (orders_account_of default) (omega (arith, lt, length-map accounts orders_account_of)) distinct behind
    (λ other. put other ∙ ap (λ (a : PlainAccount). cond (is_same a.address other) (Some (place - 1)) (find other)) here)
