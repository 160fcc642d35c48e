-- accounts that are found by their addresses
use Rattle.std.proofs.Common.{◌≡◌, ℕ, suc, ◌-◌, ◌<◌, ◌≤◌, Bool, true, false, cond, ◌∷◌, List, length, get_or, drop, Option, Some, sym, ap, ◌∙◌, subst, arith, refl, drop-cons}
use Rattle.std.proofs.lemmas.List.{get_or_default}
use Rattle.dex_types.specs.declared.account_bytes.OrdersAccount.{OrdersAccount}
use Rattle.dex_types.specs.declared.addresses.Address.{Address}
use Rattle.dex_types.specs.Addresses.{is_same}
use Rattle.dex_types.specs.Trader.{trader_at}
use Rattle.dex_laws.proofs.TraderLaws.{is_same-sym}
use Rattle.dex_orders.specs.StandsFor.{trader_of}
use Rattle.dex_totals.specs.Reading.{IsPlaceOf, LeadToTraders, traders}

-- with one account more in front, what was found at an address is that account's place, or what was found before
found-more : (accounts rest : List OrdersAccount) (here : OrdersAccount) (place : ℕ) (owner : Address) (same : Bool) (before after : Option ℕ)
    → place < length accounts → ((d : OrdersAccount) → get_or accounts place d ≡ here) → is_same owner here.address ≡ same
    → IsPlaceOf accounts (trader_at owner (traders rest)) before → after ≡ cond same (Some place) before
    → IsPlaceOf accounts (trader_at owner (traders (here ∷ rest))) after
found-more accounts rest here place owner true before after lt at same leads is =
    rw (is, same) (lt, λ d. ap (λ (account : OrdersAccount). Some (trader_of account.bytes.items)) (sym (at d)))
found-more accounts rest here place owner false before after lt at same leads is = rw (is, same) leads

pub leads-more : (find next : Address → Option ℕ) (accounts : List OrdersAccount) (place : ℕ) (d : OrdersAccount) → 0 < place → place ≤ length accounts
    → LeadToTraders find accounts (traders (drop place accounts))
    → ((other : Address) → next other ≡ cond (is_same (get_or accounts (place - 1) d).address other) (Some (place - 1)) (find other))
    → LeadToTraders next accounts (traders (drop (place - 1) accounts))
leads-more find next accounts place d some within leads put = λ owner.
    let at : ℕ = place - 1 in
    let here : OrdersAccount = get_or accounts at d in
    let rest : List OrdersAccount = drop place accounts in
    let lt : at < length accounts = omega arith in
    let again : suc at ≡ place = omega arith in
    let split : drop at accounts ≡ here ∷ rest = drop-cons accounts at d lt ∙ ap (λ (n : ℕ). here ∷ drop n accounts) again in
    subst (λ (l : List OrdersAccount). IsPlaceOf accounts (trader_at owner (traders l)) (next owner)) (sym split)
    (found-more accounts rest here at owner (is_same owner here.address) (find owner) (next owner) lt (λ e. get_or_default accounts at e d lt) refl
    (leads owner) (put owner ∙ ap (λ (b : Bool). cond b (Some at) (find owner)) (is_same-sym here.address owner)))
