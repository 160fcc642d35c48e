-- what putting one trader changes: sums over traders, what places hold, addresses, slots, and totals
use Rattle.std.proofs.Common.{ℕ, ◌+◌, ◌<◌, ◌≡◌, true, false, ◌&&◌, cond, eqb, List, ◌∷◌, Option, Some, None, length, set, get_or, refl, sym, ap, ◌∙◌, subst, arith, ⊎_elim, get_or-set_same, get_or-set_other}
use Rattle.std.proofs.lemmas.Bool.{cases_Bool, cond-true, cond-false, eqb-true, eqb-false}
use Rattle.dex_types.specs.declared.addresses.Address.{Address}
use Rattle.dex_types.specs.Addresses.{is_same}
use Rattle.dex_types.specs.Market.{Market}
use Rattle.dex_types.specs.Side.{Token}
use Rattle.dex_types.specs.Solvency.{AddsUp, all_free, all_referrers, free_of, referrer_of, own_locked, own_kept}
use Rattle.dex_types.specs.Soundness.{AreDistinct, HasSlots, held_at, held_by}
use Rattle.dex_types.specs.Totals.{total}
use Rattle.dex_types.specs.Trader.{Account, Holding, Trader, Open, Traders, balance, trader_at, put_trader}
use Rattle.dex_laws.proofs.TraderLaws.{traders-induction, trader_at-here, trader_at-there, put_trader-here, put_trader-there, trader_at-put_same, trader_at-put_other, is_same-true}

-- the total of a weight of traders, after one was put where another stood
pub total-put_trader : (weight : Trader → ℕ) (address : Address) (old trader : Trader) (traders : Traders) → trader_at address traders ≡ Some old
    → total (λ (entry : Address × Trader). weight entry.1) (put_trader address trader traders) + weight old
    ≡ total (λ (entry : Address × Trader). weight entry.1) traders + weight trader
total-put_trader weight address old trader traders found =
    traders-induction address
    (λ traders. trader_at address traders ≡ Some old
    → total (λ (entry : Address × Trader). weight entry.1) (put_trader address trader traders) + weight old
    ≡ total (λ (entry : Address × Trader). weight entry.1) traders + weight trader)
    (λ none. absurd (cc))
    (λ entry others same here.
    let is : Some entry.1 ≡ Some old = sym (trader_at-here address entry others same) ∙ here in
    let one : entry.1 ≡ old = cc in
    let weighs : weight entry.1 ≡ weight old = ap weight one in
    rw (put_trader-here address trader entry others same) (omega (arith, weighs)))
    (λ entry others apart rest here.
    let later : trader_at address others ≡ Some old = sym (trader_at-there address entry others apart) ∙ here in
    rw (put_trader-there address trader entry others apart) (omega (arith, rest later)))
    traders found

-- what all traders have free, and their referrer parts
pub all_free-put : (token : Token) (address : Address) (old trader : Trader) (traders : Traders) → trader_at address traders ≡ Some old
    → all_free token (put_trader address trader traders) + free_of token old ≡ all_free token traders + free_of token trader
all_free-put token = total-put_trader (free_of token)

pub all_referrers-put : (address : Address) (old trader : Trader) (traders : Traders) → trader_at address traders ≡ Some old
    → all_referrers (put_trader address trader traders) + referrer_of old ≡ all_referrers traders + referrer_of trader
all_referrers-put = total-put_trader referrer_of

-- a look-up after a put, at the put's address or another
pub trader_at-put : (address owner : Address) (old trader : Trader) (traders : Traders) → trader_at address traders ≡ Some old
    → trader_at owner (put_trader address trader traders) ≡ cond (is_same owner address) (Some trader) (trader_at owner traders)
trader_at-put address owner old trader traders found =
    ⊎_elim
    (λ (same : is_same owner address ≡ true).
    let is : owner ≡ address = is_same-true owner address same in
    subst (λ a. trader_at a (put_trader address trader traders) ≡ Some trader) (sym is) (trader_at-put_same address old trader traders found)
    ∙ sym (cond-true (is_same owner address) (Some trader) (trader_at owner traders) same))
    (λ (apart : is_same owner address ≡ false).
    trader_at-put_other address owner trader traders apart ∙ sym (cond-false (is_same owner address) (Some trader) (trader_at owner traders) apart))
    (cases_Bool (is_same owner address))

-- a put puts nobody where nobody was
pub trader_at-put_none : (address other : Address) (trader : Trader) (traders : Traders) → trader_at other traders ≡ None → trader_at other (put_trader address trader traders) ≡ None
trader_at-put_none address other trader =
    traders-induction address (λ traders. trader_at other traders ≡ None → trader_at other (put_trader address trader traders) ≡ None)
    (λ none. refl)
    (λ entry others same none.
    rw (put_trader-here address trader entry others same)
    (⊎_elim
    (λ (here : is_same other entry.0 ≡ true). absurd (let found : trader_at other (entry ∷ others) ≡ Some entry.1 = trader_at-here other entry others here in cc))
    (λ (far : is_same other entry.0 ≡ false). trader_at-there other (entry.0, trader) others far ∙ sym (trader_at-there other entry others far) ∙ none)
    (cases_Bool (is_same other entry.0))))
    (λ entry others away rest none.
    rw (put_trader-there address trader entry others away)
    (⊎_elim
    (λ (here : is_same other entry.0 ≡ true). absurd (let found : trader_at other (entry ∷ others) ≡ Some entry.1 = trader_at-here other entry others here in cc))
    (λ (far : is_same other entry.0 ≡ false).
    trader_at-there other entry (put_trader address trader others) far ∙ rest (sym (trader_at-there other entry others far) ∙ none))
    (cases_Bool (is_same other entry.0))))

-- each address still stands once
pub AreDistinct-put : (address : Address) (trader : Trader) (traders : Traders) → AreDistinct traders → AreDistinct (put_trader address trader traders)
AreDistinct-put address trader =
    traders-induction address (λ traders. AreDistinct traders → AreDistinct (put_trader address trader traders))
    (λ distinct. tt)
    (λ entry others same distinct. subst AreDistinct (sym (put_trader-here address trader entry others same)) distinct)
    (λ entry others apart rest distinct.
    subst AreDistinct (sym (put_trader-there address trader entry others apart)) (trader_at-put_none address entry.0 trader others distinct.0, rest distinct.1))

-- open accounts still have 128 slots, where the one that was put has
pub HasSlots-put : (address : Address) (old trader : Trader) (traders : Traders) → trader_at address traders ≡ Some old
    → ((account : Account) → trader ≡ Open account → length account.slots ≡ 128) → HasSlots traders → HasSlots (put_trader address trader traders)
HasSlots-put address old trader traders found has slots owner account is =
    ⊎_elim
    (λ (same : is_same owner address ≡ true).
    let put : Some trader ≡ Some (Open account) =
    sym (cond-true (is_same owner address) (Some trader) (trader_at owner traders) same) ∙ sym (trader_at-put address owner old trader traders found) ∙ is in
    let opened : trader ≡ Open account = cc in
    has account opened)
    (λ (apart : is_same owner address ≡ false). slots owner account (sym (trader_at-put_other address owner trader traders apart) ∙ is))
    (cases_Bool (is_same owner address))

-- what the slots of a trader hold, after it was put, and what those of another hold
pub held_at-put_same : (address : Address) (slot : ℕ) (old trader : Trader) (traders : Traders) → trader_at address traders ≡ Some old
    → held_at address slot (put_trader address trader traders) ≡ held_by (Some trader) slot
held_at-put_same address slot old trader traders found = ap (λ t. held_by t slot) (trader_at-put_same address old trader traders found)

pub held_at-put_other : (address owner : Address) (slot : ℕ) (trader : Trader) (traders : Traders) → is_same owner address ≡ false
    → held_at owner slot (put_trader address trader traders) ≡ held_at owner slot traders
held_at-put_other address owner slot trader traders apart = ap (λ t. held_by t slot) (trader_at-put_other address owner trader traders apart)

-- a put of a trader whose slots hold what they held keeps what each place holds
pub held_at-put_kept : (address : Address) (old trader : Trader) (traders : Traders) → trader_at address traders ≡ Some old
    → ((slot : ℕ) → held_by (Some trader) slot ≡ held_by (Some old) slot)
    → (owner : Address) (slot : ℕ) → held_at owner slot (put_trader address trader traders) ≡ held_at owner slot traders
held_at-put_kept address old trader traders found same owner slot =
    ⊎_elim
    (λ (is : is_same owner address ≡ true).
    let one : owner ≡ address = is_same-true owner address is in
    subst (λ a. held_at a slot (put_trader address trader traders) ≡ held_at a slot traders) (sym one)
    (held_at-put_same address slot old trader traders found ∙ same slot ∙ sym (ap (λ t. held_by t slot) found)))
    (λ (apart : is_same owner address ≡ false). held_at-put_other address owner slot trader traders apart)
    (cases_Bool (is_same owner address))

-- the slots of an account with something else in one of them
pub slots-set : (slots : List (Option Holding)) (slot at : ℕ) (held : Option Holding) → slot < length slots
    → get_or (set slots slot held) at None ≡ cond (eqb at slot) held (get_or slots at None)
slots-set slots slot at held within =
    ⊎_elim
    (λ (same : eqb at slot ≡ true).
    let is : at ≡ slot = eqb-true at slot same in
    subst (λ s. get_or (set slots slot held) s None ≡ held) (sym is) (get_or-set_same slots slot held None within)
    ∙ sym (cond-true (eqb at slot) held (get_or slots at None) same))
    (λ (apart : eqb at slot ≡ false).
    get_or-set_other slots slot at held None (eqb-false at slot apart) ∙ sym (cond-false (eqb at slot) held (get_or slots at None) apart))
    (cases_Bool (eqb at slot))

-- what each place holds, after one slot of an account holds something else
pub held_at-put_slot : (address : Address) (slot : ℕ) (held : Option Holding) (account after : Account) (traders : Traders)
    → trader_at address traders ≡ Some (Open account) → slot < length account.slots → after.slots ≡ set account.slots slot held
    → (owner : Address) (at : ℕ) → held_at owner at (put_trader address (Open after) traders) ≡ cond (is_same owner address && eqb at slot) held (held_at owner at traders)
held_at-put_slot address slot held account after traders found within slots owner at =
    ⊎_elim
    (λ (is : is_same owner address ≡ true).
    let one : owner ≡ address = is_same-true owner address is in
    let before : held_at address at traders ≡ get_or account.slots at None = ap (λ t. held_by t at) found in
    rw is
    (subst (λ a. held_at a at (put_trader address (Open after) traders) ≡ cond (eqb at slot) held (held_at a at traders)) (sym one)
    (held_at-put_same address at (Open account) (Open after) traders found ∙ ap (λ s. get_or s at None) slots ∙ slots-set account.slots slot at held within
    ∙ ap (cond (eqb at slot) held) (sym before))))
    (λ (apart : is_same owner address ≡ false). rw apart (held_at-put_other address owner at (Open after) traders apart))
    (cases_Bool (is_same owner address))

-- accounts still add up after a put, where those of others keep what is locked and pending for them, and the one that
-- was put adds up
pub AddsUp-put : (m after : Market) (address : Address) (old trader : Trader) → trader_at address m.traders ≡ Some old
    → after.traders ≡ put_trader address trader m.traders
    → ((owner : Address) → is_same owner address ≡ false → (token : Token) →
    own_locked token owner after + own_kept token owner after.events ≡ own_locked token owner m + own_kept token owner m.events)
    → ((account : Account) → trader ≡ Open account → (token : Token) →
    (balance token account).total ≡ (balance token account).free + own_locked token address after + own_kept token address after.events)
    → AddsUp m → AddsUp after
AddsUp-put m after address old trader found traders others own adds owner account is token =
    ⊎_elim
    (λ (same : is_same owner address ≡ true).
    let one : owner ≡ address = is_same-true owner address same in
    let put : Some trader ≡ Some (Open account) =
    sym (trader_at-put_same address old trader m.traders found) ∙ ap (trader_at address) (sym traders) ∙ ap (λ a. trader_at a after.traders) (sym one) ∙ is in
    let opened : trader ≡ Open account = cc in
    subst (λ a. (balance token account).total ≡ (balance token account).free + own_locked token a after + own_kept token a after.events) (sym one) (own account opened token))
    (λ (apart : is_same owner address ≡ false).
    let before : trader_at owner m.traders ≡ Some (Open account) =
    sym (trader_at-put_other address owner trader m.traders apart) ∙ ap (trader_at owner) (sym traders) ∙ is in
    omega (arith, others owner apart token, adds owner account before token))
    (cases_Bool (is_same owner address))
