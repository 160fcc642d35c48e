-- what is known where a row has no reason to be refused
use Rattle.std.proofs.Common.{ℕ, ◌+◌, ◌^◌, ◌≤◌, ◌<◌, ◌≡◌, Bool, true, false, List, [], ◌∷◌, Option, Some, None, length, refl, arith}
use Rattle.std.proofs.lemmas.Bool.{ltb-false, leb-false}
use Rattle.dex_types.specs.declared.refusals.Refusal.{Refusal}
use Rattle.dex_types.specs.declared.rows.Seen.{Seen}
use Rattle.dex_types.specs.declared.terms.Side.{Side}
use Rattle.dex_types.specs.Market.{Market}
use Rattle.dex_types.specs.NewOrder.{NewOrder}
use Rattle.dex_types.specs.Reasons.{first_of, refused_where, ask_too_large, queue_full, event_room, past_bound}
use Rattle.dex_types.specs.Requests.{Request, Party}
use Rattle.dex_types.specs.Side.{Token, Coin, Pc}
use Rattle.dex_types.specs.Solvency.{IsBounded, vault, all_leaving}
use Rattle.dex_types.specs.Take.{Take}
use Rattle.dex_types.specs.Why.{OrderReading, TakeReading, asking_reasons, order_reading, ordering_reasons, payer_mint, standing_reasons, take_asking_reasons, take_reading, taking_reasons, why_order_early, why_order_of, why_ordering, why_take, why_take_early, why_taking}

-- none of several reasons holds
abbrev pub NoneOf : List (Option Refusal) → Type 0
NoneOf [] = Unit {0}
NoneOf (reason ∷ later) = (reason ≡ None) × NoneOf later

-- where there is no first reason, there is none
pub first_of-none : (reasons : List (Option Refusal)) → first_of reasons ≡ None → NoneOf reasons
first_of-none [] none = tt
first_of-none (None ∷ later) none = (refl, first_of-none later none)
first_of-none ((Some why) ∷ later) none = absurd cc

-- a test that would refuse does not hold
pub refused_where-none : (test : Bool) (why : Refusal) → refused_where test why ≡ None → test ≡ false
refused_where-none true why none = absurd cc
refused_where-none false why none = refl

-- the events have room in the queue
pub queue_full-none : (needed : ℕ) (m : Market) → queue_full needed m ≡ None → length m.events ≤ m.listing.event_capacity
    → length m.events + needed ≤ m.listing.event_capacity
queue_full-none needed m none within =
    omega (arith, ltb-false (event_room m) needed (refused_where-none _ _ none))

-- the sums of a token are within the bound
pub past_bound-none : (token : Token) (m : Market) → past_bound token m ≡ None → vault token m + all_leaving token m.events < 2 ^ 64
past_bound-none token m none = leb-false (2 ^ 64) (vault token m + all_leaving token m.events) (refused_where-none _ _ none)

pub IsBounded-none : (m : Market) → past_bound Coin m ≡ None → past_bound Pc m ≡ None → IsBounded m
IsBounded-none m coin pc Coin = past_bound-none Coin m coin
IsBounded-none m coin pc Pc = past_bound-none Pc m pc

-- none of the reasons holds against a new order that is read so
pub record NoOrdering (side : Side) (n : NewOrder) (reading : OrderReading) : Type 0 where
  pub standing : NoneOf (standing_reasons side n reading.sizes reading.next_sequence reading.account)
  pub ordering : NoneOf (ordering_reasons reading.ordering reading.limits)

pub ordering-none : (side : Side) (n : NewOrder) (reading : OrderReading) → why_ordering side n reading ≡ None → NoOrdering side n reading
ordering-none side n reading none =
    let standing : List (Option Refusal) = standing_reasons side n reading.sizes reading.next_sequence reading.account in
    let ordering : List (Option Refusal) = ordering_reasons reading.ordering reading.limits in
    let parts = first_of-none (first_of standing ∷ first_of ordering ∷ []) none in
    record { standing = first_of-none standing parts.0; ordering = first_of-none ordering parts.1.0 }

-- none holds against a new order on a market
pub record NoOrder (side : Side) (n : NewOrder) (request : Request) (seen : Seen) (m : Market) (party : Party) : Type 0 where
  pub asking : NoneOf (asking_reasons side seen request.signer (payer_mint side m) party.account.person)
  pub rest : NoOrdering side n (order_reading side n seen m party.account)

pub order-none : (side : Side) (n : NewOrder) (request : Request) (seen : Seen) (m : Market) (party : Party) → why_order_of side n request seen m party ≡ None
    → NoOrder side n request seen m party
order-none side n request seen m party none =
    let reading : OrderReading = order_reading side n seen m party.account in
    let parts = first_of-none (why_order_early side request seen m party ∷ why_ordering side n reading ∷ []) none in
    record {
      asking = first_of-none (asking_reasons side seen request.signer (payer_mint side m) party.account.person) parts.0;
      rest = ordering-none side n reading parts.1.0;
    }

-- none of the reasons holds against a take that is read so
pub record NoTaking (side : Side) (t : Take) (seen : Seen) (reading : TakeReading) : Type 0 where
  pub size : ask_too_large side reading.sizes t.lots ≡ None
  pub taking : NoneOf (taking_reasons side t seen reading)

pub taking-none : (side : Side) (t : Take) (seen : Seen) (reading : TakeReading) → why_taking side t seen reading ≡ None → NoTaking side t seen reading
taking-none side t seen reading none =
    let parts = first_of-none (ask_too_large side reading.sizes t.lots ∷ first_of (taking_reasons side t seen reading) ∷ []) none in
    record { size = parts.0; taking = first_of-none (taking_reasons side t seen reading) parts.1.0 }

-- none holds against a take on a market
pub record NoTake (side : Side) (t : Take) (request : Request) (seen : Seen) (m : Market) : Type 0 where
  pub asking : NoneOf (take_asking_reasons side seen request.signer m.is_disabled m.listing.coin_mint m.listing.pc_mint)
  pub accepted : why_taking side t seen (take_reading side t seen m) ≡ None
  pub rest : NoTaking side t seen (take_reading side t seen m)

pub take-none : (side : Side) (t : Take) (request : Request) (seen : Seen) (m : Market) → why_take side t request seen m ≡ None → NoTake side t request seen m
take-none side t request seen m none =
    let reading : TakeReading = take_reading side t seen m in
    let parts = first_of-none (why_take_early side request seen m ∷ why_taking side t seen reading ∷ []) none in
    record {
      asking = first_of-none (take_asking_reasons side seen request.signer m.is_disabled m.listing.coin_mint m.listing.pc_mint) parts.0;
      accepted = parts.1.0;
      rest = taking-none side t seen reading parts.1.0;
    }
