-- An account breaks no rule exactly where it is an open-orders account, and its flags say what became of it.
use Rattle.std.proofs.Common.{◌≡◌, ◌≢◌, ℕ, ◌<◌, ◌≤◌, ◌⊎◌, if◌then◌else◌, Bool, true, false, eqb, leb, ◌||◌, List, length, get_or, Option, Some, None, refl, sym, ap, ◌∙◌, arith, inl, inr, lit<}
use Rattle.std.proofs.lemmas.Bool.{cases_eq, cases_lt, cond-false, cond-true, eq-eqb, eqb-true, le-leb, leb-true, ne_eqb, or_cases, or_left, or_right}
use Rattle.std.specs.Option.{option_or}
use Rattle.dex_fields.specs.declared.field.Field.{Field}
use Rattle.dex_fields.specs.declared.open_orders.TheConstants.{ACCOUNT_FLAGS, NATIVE_COIN_FREE, NATIVE_COIN_TOTAL, NATIVE_PC_FREE, NATIVE_PC_TOTAL}
use Rattle.dex_fields.specs.Bytes.{number_in}
use Rattle.dex_fields.proofs.FrameLaw.{framed_from_mapped, mapped_from_framed}
use Rattle.dex_fields.proofs.Rules.{cond_holds, cond_none, none_or, or_none}
use Rattle.dex_types.specs.declared.faults.AccountFault.{AccountFault}
use Rattle.dex_types.specs.AccountFaults.{flags_fault, size_fault}
use Rattle.dex_types.specs.Trader.{Holding}
use Rattle.dex_orders.specs.OrdersAccount.{AreDistinct, IsBlank, IsClosed, IsOpen, IsOpened, IsOrders, hold_one, id_field, slot_in, slots_of}
use Rattle.dex_orders.specs.Faults.{amount_rule, are_zeros, flags_rule, frame_rule, funds_rule, opened_fault, orders_fault, pair_rule, place_rule, repeat_rule, slots_fault, slots_rule, told}
use Rattle.dex_orders.proofs.BlankLaw.{number_in-zeros, test_from_zeros, zeros_from_test}
use Rattle.dex_fields.proofs.FirstFault.{each_front_none, front_none}
use Rattle.dex_orders.proofs.SlotLaw.{get_or-slots_of, get_or-slots_of_past}

-- ---- what the flags say of an accepted account

blank_flags : (bytes : List ℕ) → IsBlank bytes → number_in bytes ACCOUNT_FLAGS ≡ 0
blank_flags bytes blank = number_in-zeros bytes blank.zeros ACCOUNT_FLAGS (omega (arith, blank.size))

pub open_from_flags : (bytes : List ℕ) → IsOrders bytes → number_in bytes ACCOUNT_FLAGS ≡ 5 → IsOpen bytes
open_from_flags bytes (inl blank) flags = absurd (omega (arith, blank_flags bytes blank))
open_from_flags bytes (inr (inl is_open)) flags = is_open
open_from_flags bytes (inr (inr closed)) flags = absurd (omega (arith, closed.flags))

pub closed_from_flags : (bytes : List ℕ) → IsOrders bytes → number_in bytes ACCOUNT_FLAGS ≡ 256 → IsClosed bytes
closed_from_flags bytes (inl blank) flags = absurd (omega (arith, blank_flags bytes blank))
closed_from_flags bytes (inr (inl is_open)) flags = absurd (omega (arith, is_open.flags))
closed_from_flags bytes (inr (inr closed)) flags = closed

pub blank_from_flags : (bytes : List ℕ) → IsOrders bytes → number_in bytes ACCOUNT_FLAGS ≢ 5 → number_in bytes ACCOUNT_FLAGS ≢ 256 → IsBlank bytes
blank_from_flags bytes (inl blank) other none = blank
blank_from_flags bytes (inr (inl is_open)) other none = absurd (other is_open.flags)
blank_from_flags bytes (inr (inr closed)) other none = absurd (none closed.flags)

-- an account is only one of the three
pub not_blank : (bytes : List ℕ) → 0 < number_in bytes ACCOUNT_FLAGS → IsBlank bytes → ⊥
not_blank bytes some blank = omega (arith, blank_flags bytes blank)

-- ---- funds and slots

amounts_from_rule : (bytes : List ℕ) (free total : Field) → amount_rule bytes free total ≡ None → number_in bytes free ≤ number_in bytes total
amounts_from_rule bytes free total h =
    leb-true (number_in bytes free) (number_in bytes total)
    (cond_holds (leb (number_in bytes free) (number_in bytes total)) (slots_fault free.at (number_in bytes free) (number_in bytes total)) None h).0

rule_from_amounts : (bytes : List ℕ) (free total : Field) → number_in bytes free ≤ number_in bytes total → amount_rule bytes free total ≡ None
rule_from_amounts bytes free total h = rw (le-leb (number_in bytes free) (number_in bytes total) h) refl

rule_from_funds : (bytes : List ℕ) → number_in bytes NATIVE_COIN_FREE ≤ number_in bytes NATIVE_COIN_TOTAL → number_in bytes NATIVE_PC_FREE ≤ number_in bytes NATIVE_PC_TOTAL
    → (place : ℕ) → funds_rule bytes place ≡ None
rule_from_funds bytes coin pc place =
    let pc_rule : Option AccountFault = if eqb place 93 then amount_rule bytes NATIVE_PC_FREE NATIVE_PC_TOTAL else None in
    elim (cases_eq place 77) [
      | inl here ↦ cond-true (eqb place 77) (amount_rule bytes NATIVE_COIN_FREE NATIVE_COIN_TOTAL) pc_rule (eq-eqb place 77 here)
          ∙ rule_from_amounts bytes NATIVE_COIN_FREE NATIVE_COIN_TOTAL coin
      | inr apart ↦ cond-false (eqb place 77) (amount_rule bytes NATIVE_COIN_FREE NATIVE_COIN_TOTAL) pc_rule (ne_eqb place 77 apart)
          ∙ elim (cases_eq place 93) [
            | inl here ↦ cond-true (eqb place 93) (amount_rule bytes NATIVE_PC_FREE NATIVE_PC_TOTAL) None (eq-eqb place 93 here)
                ∙ rule_from_amounts bytes NATIVE_PC_FREE NATIVE_PC_TOTAL pc
            | inr other ↦ cond-false (eqb place 93) (amount_rule bytes NATIVE_PC_FREE NATIVE_PC_TOTAL) None (ne_eqb place 93 other)
          ]
    ]

pairs_from_rule : (bytes : List ℕ) (slot : ℕ) → repeat_rule bytes slot ≡ None → (lower : ℕ) → lower < slot → hold_one (slot_in bytes slot) (slot_in bytes lower) ≡ false
unfolding repeat_rule
pairs_from_rule bytes slot h lower lt =
    (cond_none (hold_one (slot_in bytes slot) (slot_in bytes lower)) (slots_fault slot (number_in bytes (id_field slot)) lower) None
    (each_front_none (pair_rule bytes slot) slot h lower lt)).0

rule_from_pairs : (bytes : List ℕ) (slot : ℕ) → ((lower : ℕ) → lower < slot → hold_one (slot_in bytes slot) (slot_in bytes lower) ≡ false) → repeat_rule bytes slot ≡ None
unfolding repeat_rule
rule_from_pairs bytes slot apart =
    front_none (pair_rule bytes slot) slot (λ lower lt.
    cond-false (hold_one (slot_in bytes slot) (slot_in bytes lower)) (Some (slots_fault slot (number_in bytes (id_field slot)) lower)) None (apart lower lt))

-- the rules of each place
places_from_rule : (bytes : List ℕ) → slots_rule bytes ≡ None → (place : ℕ) → place < 128 → (funds_rule bytes place ≡ None) × (repeat_rule bytes place ≡ None)
unfolding slots_rule
places_from_rule bytes h place lt = or_none (funds_rule bytes place) (repeat_rule bytes place) (each_front_none (place_rule bytes) 128 h place lt)

rule_from_places : (bytes : List ℕ) → ((place : ℕ) → place < 128 → place_rule bytes place ≡ None) → slots_rule bytes ≡ None
unfolding slots_rule
rule_from_places bytes each = front_none (place_rule bytes) 128 each

distinct_from_rule : (bytes : List ℕ) → slots_rule bytes ≡ None → AreDistinct (slots_of bytes)
distinct_from_rule bytes h i j lt =
    elim (cases_lt j 128) [
      | inl low ↦ ap (λ (x : Option Holding). hold_one x (get_or (slots_of bytes) i None)) (get_or-slots_of bytes j low)
          ∙ ap (hold_one (slot_in bytes j)) (get_or-slots_of bytes i (omega arith))
          ∙ pairs_from_rule bytes j (places_from_rule bytes h j low).1 i lt
      | inr past ↦ ap (λ (x : Option Holding). hold_one x (get_or (slots_of bytes) i None)) (get_or-slots_of_past bytes j past)
    ]

pairs_from_distinct : (bytes : List ℕ) → AreDistinct (slots_of bytes) → (slot : ℕ) → slot < 128 → (lower : ℕ) → lower < slot
    → hold_one (slot_in bytes slot) (slot_in bytes lower) ≡ false
pairs_from_distinct bytes distinct slot low lower lt =
    ap (λ (x : Option Holding). hold_one x (slot_in bytes lower)) (sym (get_or-slots_of bytes slot low))
    ∙ ap (hold_one (get_or (slots_of bytes) slot None)) (sym (get_or-slots_of bytes lower (omega arith)))
    ∙ distinct lower slot lt

-- ---- the account

flags_from_rule : (bytes : List ℕ) → flags_rule bytes ≡ None → (number_in bytes ACCOUNT_FLAGS ≡ 5) ⊎ (number_in bytes ACCOUNT_FLAGS ≡ 256)
flags_from_rule bytes h =
    let flags : ℕ = number_in bytes ACCOUNT_FLAGS in
    elim (or_cases (eqb flags 5) (eqb flags 256) (cond_holds (eqb flags 5 || eqb flags 256) (flags_fault flags 5) None h).0) [
      | inl opened ↦ inl (eqb-true flags 5 opened)
      | inr closed ↦ inr (eqb-true flags 256 closed)
    ]

rule_from_flags : (bytes : List ℕ) → (number_in bytes ACCOUNT_FLAGS ≡ 5) ⊎ (number_in bytes ACCOUNT_FLAGS ≡ 256) → flags_rule bytes ≡ None
rule_from_flags bytes (inl h) =
    let flags : ℕ = number_in bytes ACCOUNT_FLAGS in
    cond-true (eqb flags 5 || eqb flags 256) None (Some (flags_fault flags 5)) (or_left (eqb flags 5) (eqb flags 256) (eq-eqb flags 5 h))
rule_from_flags bytes (inr h) =
    let flags : ℕ = number_in bytes ACCOUNT_FLAGS in
    cond-true (eqb flags 5 || eqb flags 256) None (Some (flags_fault flags 5)) (or_right (eqb flags 5) (eqb flags 256) (eq-eqb flags 256 h))

opened_from_none : (bytes : List ℕ) → length bytes ≡ 3228 → opened_fault bytes ≡ None → IsOrders bytes
unfolding opened_fault
opened_from_none bytes size h =
    let last = or_none (option_or (frame_rule bytes) (flags_rule bytes)) (slots_rule bytes) h in
    let first = or_none (frame_rule bytes) (flags_rule bytes) last.0 in
    let made : IsOpened bytes = record {
      size = size;
      framed = framed_from_mapped told bytes (omega arith) first.0;
      coin = amounts_from_rule bytes NATIVE_COIN_FREE NATIVE_COIN_TOTAL (places_from_rule bytes last.1 77 (lit< tt)).0;
      pc = amounts_from_rule bytes NATIVE_PC_FREE NATIVE_PC_TOTAL (places_from_rule bytes last.1 93 (lit< tt)).0;
      distinct = distinct_from_rule bytes last.1;
    } in
    elim (flags_from_rule bytes first.1) [
      | inl flags ↦ inr (inl (record { opened = made; flags = flags }))
      | inr flags ↦ inr (inr (record { opened = made; flags = flags }))
    ]

none_from_opened : (bytes : List ℕ) → IsOpened bytes → (number_in bytes ACCOUNT_FLAGS ≡ 5) ⊎ (number_in bytes ACCOUNT_FLAGS ≡ 256) → opened_fault bytes ≡ None
unfolding opened_fault
none_from_opened bytes made flags =
    none_or (option_or (frame_rule bytes) (flags_rule bytes)) (slots_rule bytes)
    (none_or (frame_rule bytes) (flags_rule bytes) (mapped_from_framed told bytes made.framed) (rule_from_flags bytes flags))
    (rule_from_places bytes (λ place lt.
    none_or (funds_rule bytes place) (repeat_rule bytes place) (rule_from_funds bytes made.coin made.pc place)
    (rule_from_pairs bytes place (pairs_from_distinct bytes made.distinct place lt))))

-- a rule that a test lets pass
without : (pass : Bool) (fault : Option AccountFault) → (pass ≡ true) ⊎ (fault ≡ None) → (if pass then None else fault) ≡ None
without true fault either = refl
without false fault (inl h) = absurd cc
without false fault (inr h) = h

zeros_or : (pass : Bool) (fault : Option AccountFault) → (if pass then None else fault) ≡ None → (pass ≡ true) ⊎ (fault ≡ None)
zeros_or true fault h = inl refl
zeros_or false fault h = inr h

-- an account that is not blank or breaks no rule breaks none
none_from_either : (bytes : List ℕ) → length bytes ≡ 3228 → (are_zeros bytes ≡ true) ⊎ (opened_fault bytes ≡ None) → orders_fault bytes ≡ None
unfolding orders_fault
none_from_either bytes size either =
    let other : Option AccountFault = if are_zeros bytes then None else opened_fault bytes in
    cond-true (eqb (length bytes) 3228) other (Some (size_fault (length bytes) 3228)) (eq-eqb (length bytes) 3228 size)
    ∙ without (are_zeros bytes) (opened_fault bytes) either

pub orders_from_none : (bytes : List ℕ) → orders_fault bytes ≡ None → IsOrders bytes
unfolding orders_fault
orders_from_none bytes h =
    let other : Option AccountFault = if are_zeros bytes then None else opened_fault bytes in
    let whole = cond_holds (eqb (length bytes) 3228) (size_fault (length bytes) 3228) other h in
    let size : length bytes ≡ 3228 = eqb-true (length bytes) 3228 whole.0 in
    elim (zeros_or (are_zeros bytes) (opened_fault bytes) whole.1) [
      | inl zeros ↦ inl (record { size = size; zeros = zeros_from_test bytes zeros })
      | inr none ↦ opened_from_none bytes size none
    ]

pub none_from_orders : (bytes : List ℕ) → IsOrders bytes → orders_fault bytes ≡ None
none_from_orders bytes (inl blank) = none_from_either bytes blank.size (inl (test_from_zeros bytes blank.zeros))
none_from_orders bytes (inr (inl is_open)) = none_from_either bytes is_open.opened.size (inr (none_from_opened bytes is_open.opened (inl is_open.flags)))
none_from_orders bytes (inr (inr closed)) = none_from_either bytes closed.opened.size (inr (none_from_opened bytes closed.opened (inr closed.flags)))
