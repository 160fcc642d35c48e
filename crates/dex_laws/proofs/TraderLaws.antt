-- laws of traders: look-up and put by address, and free slots
use Rattle.std.proofs.Common.{ℕ, zero, suc, add-one, ◌≤◌, ◌<◌, ◌≡◌, ◌≢◌, ⊎_elim, true, false, List, [], ◌∷◌, ◌++◌, Option, Some, None, length, map, replicate, get_or, refl, sym, ap, ◌∙◌, subst, arith}
use Rattle.std.specs.Bool.{Decides}
use Rattle.std.proofs.lemmas.Bool.{cases_Bool, cond-true, cond-false, false≢true, false_from_ne_true}
use Rattle.std.proofs.lemmas.Slice.Eq.{bytes_eq-Decides}
use Rattle.dex_types.specs.declared.addresses.Address.{Address}
use Rattle.dex_types.specs.Addresses.{is_same}
use Rattle.dex_types.specs.Trader.{Trader, Traders, Holding, trader_at, put_trader, free_slot}

-- two addresses are the same where their bytes are
pub is_same-true : (address other : Address) → is_same address other ≡ true → address ≡ other
is_same-true address other same =
    let with_bytes : List ℕ → Address = λ bytes. record { 0 = bytes } in ap with_bytes ((bytes_eq-Decides address.0 other.0).0 same)

-- each address is the same as itself
pub is_same-refl : (address : Address) → is_same address address ≡ true
is_same-refl address = (bytes_eq-Decides address.0 address.0).1 refl

-- so the test decides equality
pub is_same-Decides : (address other : Address) → Decides (is_same address other) (address ≡ other)
is_same-Decides address other = (is_same-true address other, λ e. subst (λ a. is_same address a ≡ true) e (is_same-refl address))

-- two addresses that differ are not the same
pub is_same-false : (address other : Address) → address ≢ other → is_same address other ≡ false
is_same-false address other apart = false_from_ne_true _ (λ same. apart (is_same-true address other same))

-- two addresses that are not the same differ
pub is_same-apart : (address other : Address) → is_same address other ≡ false → address ≢ other
is_same-apart address other apart = λ e. false≢true (sym apart ∙ (is_same-Decides address other).1 e)

-- the test does not depend on the order of the two
pub is_same-sym : (address other : Address) → is_same address other ≡ is_same other address
is_same-sym address other =
    ⊎_elim (λ (same : is_same address other ≡ true). same ∙ sym ((is_same-Decides other address).1 (sym (is_same-true address other same))))
    (λ (apart : is_same address other ≡ false). apart ∙ sym (is_same-false other address (λ e. is_same-apart address other apart (sym e))))
    (cases_Bool (is_same address other))

-- a look-up and a put, at an address that stands first and at one that does not
pub trader_at-here : (address : Address) (entry : Address × Trader) (others : Traders) → is_same address entry.0 ≡ true → trader_at address (entry ∷ others) ≡ Some entry.1
trader_at-here address entry others same = cond-true _ _ _ same

-- a look-up passes another address
pub trader_at-there : (address : Address) (entry : Address × Trader) (others : Traders) → is_same address entry.0 ≡ false → trader_at address (entry ∷ others) ≡ trader_at address others
trader_at-there address entry others apart = cond-false _ _ _ apart

-- a put changes the trader at its address
pub put_trader-here : (address : Address) (trader : Trader) (entry : Address × Trader) (others : Traders) → is_same address entry.0 ≡ true
    → put_trader address trader (entry ∷ others) ≡ (entry.0, trader) ∷ others
put_trader-here address trader entry others same = cond-true _ _ _ same

-- a put passes another address
pub put_trader-there : (address : Address) (trader : Trader) (entry : Address × Trader) (others : Traders) → is_same address entry.0 ≡ false
    → put_trader address trader (entry ∷ others) ≡ entry ∷ put_trader address trader others
put_trader-there address trader entry others apart = cond-false _ _ _ apart

-- what holds of no traders, of lists in which the address stands first, and of lists after another address, holds of
-- all
pub traders-induction : (address : Address) (P : Traders → Type 0) → P []
    → ((entry : Address × Trader) (others : Traders) → is_same address entry.0 ≡ true → P (entry ∷ others))
    → ((entry : Address × Trader) (others : Traders) → is_same address entry.0 ≡ false → P others → P (entry ∷ others))
    → (traders : Traders) → P traders
traders-induction address P none here there [] = none
traders-induction address P none here there (entry ∷ others) =
    ⊎_elim (here entry others) (λ (apart : is_same address entry.0 ≡ false). there entry others apart (traders-induction address P none here there others))
    (cases_Bool (is_same address entry.0))

-- what was put is found at its address
pub trader_at-put_same : (address : Address) (old trader : Trader) (traders : Traders) → trader_at address traders ≡ Some old
    → trader_at address (put_trader address trader traders) ≡ Some trader
trader_at-put_same address old trader =
    traders-induction address (λ traders. trader_at address traders ≡ Some old → trader_at address (put_trader address trader traders) ≡ Some trader)
    (λ found. cc)
    (λ entry others same found. rw (put_trader-here address trader entry others same) (trader_at-here address (entry.0, trader) others same))
    (λ entry others apart rest found.
    rw (put_trader-there address trader entry others apart, trader_at-there address entry (put_trader address trader others) apart)
    (rest (sym (trader_at-there address entry others apart) ∙ found)))

-- and at no other address anything changes
pub trader_at-put_other : (address other : Address) (trader : Trader) (traders : Traders) → is_same other address ≡ false
    → trader_at other (put_trader address trader traders) ≡ trader_at other traders
trader_at-put_other address other trader traders apart =
    traders-induction address (λ traders. trader_at other (put_trader address trader traders) ≡ trader_at other traders)
    refl
    (λ entry others same.
    let e : address ≡ entry.0 = is_same-true address entry.0 same in
    let away : is_same other entry.0 ≡ false = subst (λ a. is_same other a ≡ false) e apart in
    rw (put_trader-here address trader entry others same, trader_at-there other (entry.0, trader) others away, trader_at-there other entry others away) refl)
    (λ entry others away rest.
    rw (put_trader-there address trader entry others away)
    (⊎_elim
    (λ (same : is_same other entry.0 ≡ true). trader_at-here other entry (put_trader address trader others) same ∙ sym (trader_at-here other entry others same))
    (λ (far : is_same other entry.0 ≡ false). trader_at-there other entry (put_trader address trader others) far ∙ rest ∙ sym (trader_at-there other entry others far))
    (cases_Bool (is_same other entry.0))))
    traders

-- a put keeps the addresses and their order
pub addresses-put_trader : (address : Address) (trader : Trader) (traders : Traders) → map (λ (e : Address × Trader). e.0) (put_trader address trader traders) ≡ map (λ (e : Address × Trader). e.0) traders
addresses-put_trader address trader =
    traders-induction address (λ traders. map (λ (e : Address × Trader). e.0) (put_trader address trader traders) ≡ map (λ (e : Address × Trader). e.0) traders)
    refl
    (λ entry others same. ap (map (λ (e : Address × Trader). e.0)) (put_trader-here address trader entry others same))
    (λ entry others apart rest. ap (map (λ (e : Address × Trader). e.0)) (put_trader-there address trader entry others apart) ∙ ap (λ tail. entry.0 ∷ tail) rest)

-- a put keeps the number of traders
pub length-put_trader : (address : Address) (trader : Trader) (traders : Traders) → length (put_trader address trader traders) ≡ length traders
length-put_trader address trader =
    traders-induction address (λ traders. length (put_trader address trader traders) ≡ length traders)
    refl
    (λ entry others same. ap length (put_trader-here address trader entry others same))
    (λ entry others apart rest. ap length (put_trader-there address trader entry others apart) ∙ ap suc rest)

-- a put where the address is not changes nothing, nor does one of what is there
pub put_trader-absent : (address : Address) (trader : Trader) (traders : Traders) → trader_at address traders ≡ None → put_trader address trader traders ≡ traders
put_trader-absent address trader =
    traders-induction address (λ traders. trader_at address traders ≡ None → put_trader address trader traders ≡ traders)
    (λ absent. refl)
    (λ entry others same absent. let here : trader_at address (entry ∷ others) ≡ Some entry.1 = trader_at-here address entry others same in cc)
    (λ entry others apart rest absent. put_trader-there address trader entry others apart ∙ ap (λ tail. entry ∷ tail) (rest (sym (trader_at-there address entry others apart) ∙ absent)))

-- a put of the trader that is there changes nothing
pub put_trader-same : (address : Address) (trader : Trader) (traders : Traders) → trader_at address traders ≡ Some trader → put_trader address trader traders ≡ traders
put_trader-same address trader =
    traders-induction address (λ traders. trader_at address traders ≡ Some trader → put_trader address trader traders ≡ traders)
    (λ found. refl)
    (λ entry others same found.
    let here : trader_at address (entry ∷ others) ≡ Some entry.1 = trader_at-here address entry others same in
    let put : put_trader address trader (entry ∷ others) ≡ (entry.0, trader) ∷ others = put_trader-here address trader entry others same in
    let is : entry.1 ≡ trader = cc in
    put ∙ ap (λ (t : Trader). (entry.0, t) ∷ others) (sym is))
    (λ entry others apart rest found. put_trader-there address trader entry others apart ∙ ap (λ tail. entry ∷ tail) (rest (sym (trader_at-there address entry others apart) ∙ found)))

-- the later of two puts stays
pub put_trader-twice : (address : Address) (first trader : Trader) (traders : Traders)
    → put_trader address trader (put_trader address first traders) ≡ put_trader address trader traders
put_trader-twice address first trader =
    traders-induction address (λ traders. put_trader address trader (put_trader address first traders) ≡ put_trader address trader traders)
    refl
    (λ entry others same.
    rw (put_trader-here address first entry others same, put_trader-here address trader entry others same) (put_trader-here address trader (entry.0, first) others same))
    (λ entry others apart rest.
    rw (put_trader-there address first entry others apart, put_trader-there address trader entry others apart)
    (put_trader-there address trader entry (put_trader address first others) apart ∙ ap (λ tail. entry ∷ tail) rest))

-- the free slot is the first that holds nothing
pub free_slot-le : (slots : List (Option Holding)) → free_slot slots ≤ length slots
free_slot-le [] = omega arith
free_slot-le (None ∷ slots) = omega arith
free_slot-le ((Some held) ∷ slots) = omega (arith, free_slot-le slots)

-- where it is below their number, nothing is held there
pub free_slot-free : (slots : List (Option Holding)) (default : Option Holding) → free_slot slots < length slots → get_or slots (free_slot slots) default ≡ None
free_slot-free [] default inside = absurd (omega arith)
free_slot-free (None ∷ slots) default inside = refl
free_slot-free ((Some held) ∷ slots) default inside = rw add-one (free_slot-free slots default (omega arith))

-- each slot before it is taken
pub free_slot-first : (slots : List (Option Holding)) (slot : ℕ) → slot < length slots → get_or slots slot None ≡ None → free_slot slots ≤ slot
free_slot-first [] slot inside free = omega arith
free_slot-first (None ∷ slots) slot inside free = omega arith
free_slot-first ((Some held) ∷ slots) zero inside free = absurd (cc)
free_slot-first ((Some held) ∷ slots) (suc slot) inside free = omega (arith, free_slot-first slots slot (omega arith) free)

-- taken slots before free ones
pub free_slot-taken : (held : List Holding) (free : ℕ) → 0 < free → free_slot (map Some held ++ replicate free None) ≡ length held
free_slot-taken [] zero some = absurd (omega arith)
free_slot-taken [] (suc free) some = refl
free_slot-taken (first ∷ held) free some = omega (arith, free_slot-taken held free some)
