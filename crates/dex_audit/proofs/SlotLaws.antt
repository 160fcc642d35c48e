-- where an audit finds nothing of rules 1 to 6, the slots of a market agree with its orders and events
use Rattle.std.proofs.Common.{◌≡◌, ℕ, zero, suc, ◌+◌, ◌<◌, ◌⊎◌, inl, inr, Bool, true, false, ◌&&◌, not, cond, eqb, ltb, List, [], ◌∷◌, ◌++◌, length, get_or, take, Option, Some, None, refl, sym, ap, ◌∙◌, subst, arith}
use Rattle.std.specs.List.{All, flat_map}
use Rattle.std.proofs.lemmas.Bool.{eq-eqb, and_parts, eqb-true, ltb-true, false≢true, cases_order}
use Rattle.std.proofs.lemmas.List.Elements.{All-nil, All-cons}
use Rattle.dex_types.specs.declared.addresses.Address.{Address}
use Rattle.dex_types.specs.declared.orders.Order.{Order}
use Rattle.dex_types.specs.declared.terms.Side.{Side}
use Rattle.dex_types.specs.Market.{Market}
use Rattle.dex_types.specs.Side.{sequence_of}
use Rattle.dex_types.specs.Soundness.{HasSlots, held_at, held_by, order_holding, is_one_order, resting_of, finals_of}
use Rattle.dex_types.specs.Trader.{Account, Holding, Trader, Blank, Closed, Open, Traders, trader_at}
use Rattle.dex_laws.specs.Places.{is_order_at}
use Rattle.dex_laws.proofs.TraderLaws.{is_same-true, is_same-refl, traders-induction, trader_at-here, trader_at-there}
use Rattle.dex_sound.proofs.PlaceLaws.{is_same_side-true}
use Rattle.dex_audit_rules.specs.declared.taken.Taken.{Taken}
use Rattle.dex_totals.specs.Held.{is_held}
use Rattle.dex_totals.specs.Reading.{is_opened}
use Rattle.dex_audit_rules.specs.Slots.{is_number_of, misheld, misheld_in, number_of, of_open, or_else, repeated, repeated_in, taken_here, taken_in, ungiven, ungiven_in, unheld, unheld_finding, unpaired, unpaired_in}
use Rattle.dex_audit_rules.specs.Lists.{numbered}
use Rattle.dex_audit_rules.proofs.ListLaws.{Among, Among-head, Among-left, Among-right, append-none, flat_map-none, numbered-none, unless-none}

-- ---- open accounts

-- a trader that is an open account
pub opened-is : (found : Option Trader) → is_opened found ≡ true → (account : Account) × (found ≡ Some (Open account))
opened-is None is = absurd (false≢true is)
opened-is (Some Blank) is = absurd (false≢true is)
opened-is (Some Closed) is = absurd (false≢true is)
opened-is (Some (Open account)) is = (account, refl)

-- the open account of an address gives nothing where all accounts give nothing
pub open-none : {Y : Type 0} (give : Address → Account → List Y) (owner : Address) (account : Account) (traders : Traders)
    → flat_map (λ (entry : Address × Trader). of_open (give entry.0) entry.1) traders ≡ [] → trader_at owner traders ≡ Some (Open account) → give owner account ≡ []
open-none {Y} give owner account =
    traders-induction owner
    (λ traders. flat_map (λ (entry : Address × Trader). of_open (give entry.0) entry.1) traders ≡ [] → trader_at owner traders ≡ Some (Open account) → give owner account ≡ [])
    (λ none found. absurd (cc))
    (λ entry others same none found.
    let is : Some entry.1 ≡ Some (Open account) = sym (trader_at-here owner entry others same) ∙ found in
    let trader : entry.1 ≡ Open account = cc in
    let one : of_open (give entry.0) entry.1 ≡ [] =
    (append-none (of_open (give entry.0) entry.1) (flat_map (λ (entry : Address × Trader). of_open (give entry.0) entry.1) others) none).0 in
    let opened : give entry.0 account ≡ [] = subst (λ (t : Trader). of_open (give entry.0) t ≡ []) trader one in
    subst (λ (a : Address). give a account ≡ []) (sym (is_same-true owner entry.0 same)) opened)
    (λ entry others apart rest none found.
    rest
    (append-none (of_open (give entry.0) entry.1) (flat_map (λ (entry : Address × Trader). of_open (give entry.0) entry.1) others) none).1
    (sym (trader_at-there owner entry others apart) ∙ found))

-- what an open account's slot holds
pub held-open : (owner : Address) (slot : ℕ) (account : Account) (traders : Traders) → trader_at owner traders ≡ Some (Open account)
    → held_at owner slot traders ≡ get_or account.slots slot None
held-open owner slot account traders found = ap (λ (t : Option Trader). held_by t slot) found

-- what is held, is held by an open account, in one of its slots
pub held-by-open : (found : Option Trader) (slot : ℕ) (held : Holding) → held_by found slot ≡ Some held → (account : Account) × (found ≡ Some (Open account)) × (get_or account.slots slot None ≡ Some held)
held-by-open None slot held here = absurd (cc)
held-by-open (Some Blank) slot held here = absurd (cc)
held-by-open (Some Closed) slot held here = absurd (cc)
held-by-open (Some (Open account)) slot held here = (account, refl, here)

-- ---- the slot holds just this

holding_by : (other : Holding) (id : ℕ) (side : Side) (client : ℕ) → id ≡ other.id → side ≡ other.side → client ≡ other.client
    → (let made : Holding = record { id = id; side = side; client = client } in made) ≡ other
holding_by other id side client i s c = rw (i, s, c) refl

pub is_held-true : (held : Option Holding) (wanted : Holding) → is_held held wanted ≡ true → held ≡ Some wanted
is_held-true None wanted is = absurd (false≢true is)
is_held-true (Some held) wanted is =
    let parts : (is_one_order held wanted ≡ true) × (eqb held.client wanted.client ≡ true) = and_parts (is_one_order held wanted) (eqb held.client wanted.client) is in
    let one : (eqb held.id wanted.id ≡ true) × _ = and_parts (eqb held.id wanted.id) _ parts.0 in
    ap (λ (h : Holding). Some h)
    (holding_by wanted held.id held.side held.client
    (eqb-true held.id wanted.id one.0)
    (is_same_side-true held.side wanted.side one.1)
    (eqb-true held.client wanted.client parts.1))

-- ---- 1 and 2: a resting order is held by its owner's slot

pub or_else-none : (first second : Option ℕ) → or_else first second ≡ None → (first ≡ None) × (second ≡ None)
or_else-none None second none = (refl, none)
or_else-none (Some first) second none = absurd (cc)

pub unheld_finding-none : (owner : Address) (slot : ℕ) (held : Option Holding) (id : Option ℕ) → unheld_finding owner slot held id ≡ [] → id ≡ None
unheld_finding-none owner slot held None none = refl
unheld_finding-none owner slot held (Some id) none = absurd (cc)

-- each order that rests for the place is held there
abbrev IsHeldFor : Address → ℕ → Option Holding → Side → Order → Type 0
IsHeldFor owner slot held side order = is_order_at owner slot order ≡ true → is_held held (order_holding side order) ≡ true

not-both : (here good : Bool) → (here && not good) ≡ false → here ≡ true → good ≡ true
not-both true true none here = refl
not-both true false none here = absurd (false≢true (sym none))
not-both false good none here = absurd (false≢true here)

-- an order that is passed over is held
passed : (test : Bool) (id : ℕ) (rest : Option ℕ) → cond test (Some id) rest ≡ None → (test ≡ false) × (rest ≡ None)
passed true id rest none = absurd (cc)
passed false id rest none = (refl, none)

unheld-none : (owner : Address) (slot : ℕ) (held : Option Holding) (side : Side) (resting : List Order) → unheld owner slot held side resting ≡ None
    → All (IsHeldFor owner slot held side) resting
unheld-none owner slot held side [] none = All-nil (IsHeldFor owner slot held side)
unheld-none owner slot held side (order ∷ others) none =
    let parts = passed (is_order_at owner slot order && not (is_held held (order_holding side order))) order.id (unheld owner slot held side others) none in
    All-cons (IsHeldFor owner slot held side) order others
    (not-both (is_order_at owner slot order) (is_held held (order_holding side order)) parts.0)
    (unheld-none owner slot held side others parts.1)

is_order_at-own : (order : Order) → is_order_at order.owner order.slot order ≡ true
is_order_at-own order = rw (is_same-refl order.owner, eq-eqb order.slot order.slot refl) refl

-- both sides' rules of one order
module _ (m : Market) (slots : HasSlots m.traders) (side : Side) (resting : List Order) (home : All (λ (order : Order). is_opened (trader_at order.owner m.traders) ≡ true) resting)
    (within : All (λ (order : Order). order.slot < 128) resting)
    (good : (owner : Address) (slot : ℕ) (held : Option Holding) → misheld m.bids m.asks owner slot held ≡ [] → unheld owner slot held side resting ≡ None)
    (none : misheld_in m ≡ []) where
  pub rests-held : All (λ (order : Order). held_at order.owner order.slot m.traders ≡ Some (order_holding side order)) resting
  rests-held k d lt =
      let order : Order = get_or resting k d in
      let opened = opened-is (trader_at order.owner m.traders) (home k d lt) in
      let account : Account = opened.0 in
      let found : trader_at order.owner m.traders ≡ Some (Open account) = opened.1 in
      let small : order.slot < 128 = within k d lt in
      let many : length account.slots ≡ 128 = slots order.owner account found in
      let all : numbered (misheld m.bids m.asks order.owner) 0 account.slots ≡ [] =
      open-none (λ owner account. numbered (misheld m.bids m.asks owner) 0 account.slots) order.owner account m.traders none found in
      let one : misheld m.bids m.asks order.owner order.slot (get_or account.slots order.slot None) ≡ [] =
      numbered-none (misheld m.bids m.asks order.owner) 0 account.slots order.slot order.slot None all (omega arith) (omega arith) in
      let each = unheld-none order.owner order.slot (get_or account.slots order.slot None) side resting
      (good order.owner order.slot (get_or account.slots order.slot None) one) in
      held-open order.owner order.slot account m.traders found
      ∙ is_held-true (get_or account.slots order.slot None) (order_holding side order) (each k d lt (is_order_at-own order))

-- ---- taken slots

-- a taken slot, as it is listed
abbrev pub listed : Address → ℕ → Holding → Taken
listed owner slot held = record { owner = owner; slot = slot; id = held.id; side = held.side; client = held.client }

listed-slots : (owner : Address) (first : ℕ) (slots : List (Option Holding)) (slot at : ℕ) (held : Holding) → get_or slots slot None ≡ Some held → at ≡ first + slot
    → Among (listed owner at held) (numbered (taken_here owner) first slots)
listed-slots owner first [] slot at held here is = absurd (cc)
listed-slots owner first (found ∷ slots) zero at held here is =
    let same : at ≡ first = omega arith in
    let begun : Among (listed owner first held) (taken_here owner first (Some held) ++ numbered (taken_here owner) (first + 1) slots) =
    Among-head (listed owner first held) (numbered (taken_here owner) (first + 1) slots) in
    let begins : Among (listed owner first held) (taken_here owner first found ++ numbered (taken_here owner) (first + 1) slots) =
    subst (λ (f : Option Holding). Among (listed owner first held) (taken_here owner first f ++ numbered (taken_here owner) (first + 1) slots)) (sym here) begun in
    subst (λ (n : ℕ). Among (listed owner n held) (numbered (taken_here owner) first (found ∷ slots))) (sym same) begins
listed-slots owner first (found ∷ slots) (suc slot) at held here is =
    Among-right (listed owner at held) (taken_here owner first found) (numbered (taken_here owner) (first + 1) slots)
    (listed-slots owner (first + 1) slots slot at held here (omega arith))

-- what is held stands among the taken slots
listed-open : (owner : Address) (slot : ℕ) (held : Holding) (account : Account) → get_or account.slots slot None ≡ Some held → (traders : Traders)
    → trader_at owner traders ≡ Some (Open account) → Among (listed owner slot held) (taken_in traders)
listed-open owner slot held account here =
    traders-induction owner (λ traders. trader_at owner traders ≡ Some (Open account) → Among (listed owner slot held) (taken_in traders))
    (λ found. absurd (cc))
    (λ entry others same found.
    let is : Some entry.1 ≡ Some (Open account) = sym (trader_at-here owner entry others same) ∙ found in
    let trader : entry.1 ≡ Open account = cc in
    let own : Among (listed owner slot held) (numbered (taken_here owner) 0 account.slots) = listed-slots owner 0 account.slots slot slot held here (omega arith) in
    let entered : Among (listed owner slot held) (numbered (taken_here entry.0) 0 account.slots) =
    subst (λ (a : Address). Among (listed owner slot held) (numbered (taken_here a) 0 account.slots)) (is_same-true owner entry.0 same) own in
    let told : Among (listed owner slot held) (of_open (λ account. numbered (taken_here entry.0) 0 account.slots) entry.1) =
    subst (λ (t : Trader). Among (listed owner slot held) (of_open (λ account. numbered (taken_here entry.0) 0 account.slots) t)) (sym trader) entered in
    Among-left (listed owner slot held) (of_open (λ account. numbered (taken_here entry.0) 0 account.slots) entry.1) (taken_in others) told)
    (λ entry others apart rest found.
    Among-right (listed owner slot held) (of_open (λ account. numbered (taken_here entry.0) 0 account.slots) entry.1) (taken_in others)
    (rest (sym (trader_at-there owner entry others apart) ∙ found)))

pub listed-held : (owner : Address) (slot : ℕ) (held : Holding) (traders : Traders) → held_at owner slot traders ≡ Some held → Among (listed owner slot held) (taken_in traders)
listed-held owner slot held traders here =
    let opened = held-by-open (trader_at owner traders) slot held here in
    listed-open owner slot held opened.0 opened.2 traders opened.1

-- what holds of all taken slots holds of what is held
taken-each : (P : Taken → Type 0) (owner : Address) (slot : ℕ) (held : Holding) (traders : Traders) → held_at owner slot traders ≡ Some held → All P (taken_in traders) → P (listed owner slot held)
taken-each P owner slot held traders here all =
    let among = listed-held owner slot held traders here in
    subst P (among.here (listed owner slot held)) (all among.place (listed owner slot held) among.within)

-- ---- 3 and 5

pub taken-ends : (m : Market) → unpaired_in m ≡ [] → (owner : Address) (slot : ℕ) (held : Holding) → held_at owner slot m.traders ≡ Some held → resting_of held m + finals_of held m.events ≡ 1
taken-ends m none owner slot held here =
    let all = flat_map-none (unpaired m.bids m.asks m.events) (taken_in m.traders) none in
    let one : unpaired m.bids m.asks m.events (listed owner slot held) ≡ [] = taken-each (λ taken. unpaired m.bids m.asks m.events taken ≡ []) owner slot held m.traders here all in
    eqb-true (resting_of held m + finals_of held m.events) 1 (unless-none (eqb (resting_of held m + finals_of held m.events) 1) _ one)

pub taken-given : (m : Market) → ungiven_in m ≡ [] → (owner : Address) (slot : ℕ) (held : Holding) → held_at owner slot m.traders ≡ Some held → sequence_of held.side held.id < m.next_sequence
taken-given m none owner slot held here =
    let all = flat_map-none (ungiven m.next_sequence) (taken_in m.traders) none in
    let one : ungiven m.next_sequence (listed owner slot held) ≡ [] = taken-each (λ taken. ungiven m.next_sequence taken ≡ []) owner slot held m.traders here all in
    ltb-true (sequence_of held.side held.id) m.next_sequence (unless-none (ltb (sequence_of held.side held.id) m.next_sequence) _ one)

-- ---- 6

is_number_of-at : (number : ℕ) (all : List Taken) (place : ℕ) (d : Taken) → place < length all → number_of (get_or all place d) ≡ number → is_number_of number all ≡ true
is_number_of-at number [] place d lt same = absurd (omega arith)
is_number_of-at number (taken ∷ others) zero d lt same = rw (eq-eqb (number_of taken) number same) refl
is_number_of-at number (taken ∷ others) (suc place) d lt same =
    either (eqb (number_of taken) number) (is_number_of number others) (is_number_of-at number others place d (omega arith) same)
  where
    either : (test other : Bool) → other ≡ true → cond test true other ≡ true
    either true other is = refl
    either false other is = is

get_or-take : (at place : ℕ) (all : List Taken) (d : Taken) → place < at → get_or (take at all) place d ≡ get_or all place d
get_or-take zero place all d lt = absurd (omega arith)
get_or-take (suc at) place [] d lt = refl
get_or-take (suc at) zero (taken ∷ all) d lt = refl
get_or-take (suc at) (suc place) (taken ∷ all) d lt = get_or-take at place all d (omega arith)

length-take-at : (at place : ℕ) (all : List Taken) → place < at → at < length all → place < length (take at all)
length-take-at zero place all lt within = absurd (omega arith)
length-take-at (suc at) place [] lt within = absurd (omega arith)
length-take-at (suc at) zero (taken ∷ all) lt within = omega arith
length-take-at (suc at) (suc place) (taken ∷ all) lt within = omega (arith, length-take-at at place all (omega arith) (omega arith))

not-true : (test : Bool) → not test ≡ true → test ≡ true → ⊥
not-true true isnt is = false≢true isnt
not-true false isnt is = false≢true is

module _ (all : List Taken) (none : numbered (repeated all) 0 all ≡ []) where
  -- an earlier slot has another number
  earlier-apart : (place at : ℕ) (d : Taken) → place < at → at < length all → number_of (get_or all place d) ≡ number_of (get_or all at d) → ⊥
  earlier-apart place at d lt within same =
      let one : repeated all at (get_or all at d) ≡ [] = numbered-none (repeated all) 0 all at at d none within (omega arith) in
      not-true (is_number_of (number_of (get_or all at d)) (take at all))
      (unless-none (not (is_number_of (number_of (get_or all at d)) (take at all))) _ one)
      (is_number_of-at (number_of (get_or all at d)) (take at all) place d (length-take-at at place all lt within)
      (ap number_of (get_or-take at place all d lt) ∙ same))

  one-place : (place at : ℕ) (d : Taken) → place < length all → at < length all → number_of (get_or all place d) ≡ number_of (get_or all at d) → place ≡ at
  one-place place at d lt within same =
      ⊎_elim3 (cases_order place at) (λ is. is) (λ below. absurd (earlier-apart place at d below within same)) (λ above. absurd (earlier-apart at place d above lt (sym same)))
    where
      ⊎_elim3 : {A B C D : Type 0} → A ⊎ (B ⊎ C) → (A → D) → (B → D) → (C → D) → D
      ⊎_elim3 (inl a) f g h = f a
      ⊎_elim3 (inr (inl b)) f g h = g b
      ⊎_elim3 (inr (inr c)) f g h = h c

pub taken-once : (m : Market) → repeated_in m ≡ [] → (owner other : Address) (slot at : ℕ) (held same : Holding) → held_at owner slot m.traders ≡ Some held
    → held_at other at m.traders ≡ Some same → sequence_of held.side held.id ≡ sequence_of same.side same.id → (owner ≡ other) × (slot ≡ at)
taken-once m none owner other slot at held same here there equal =
    let all : List Taken = taken_in m.traders in
    let d : Taken = listed owner slot held in
    let first = listed-held owner slot held m.traders here in
    let second = listed-held other at same m.traders there in
    let one : first.place ≡ second.place =
    one-place all none first.place second.place d first.within second.within (ap number_of (first.here d) ∙ equal ∙ sym (ap number_of (second.here d))) in
    let both : listed owner slot held ≡ listed other at same = sym (first.here d) ∙ ap (λ (n : ℕ). get_or all n d) one ∙ second.here d in
    (ap (λ (t : Taken). t.owner) both, ap (λ (t : Taken). t.slot) both)
