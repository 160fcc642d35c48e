-- when the slots of an account name its orders, and that they still do when orders leave
use Rattle.std.proofs.Common.{ℕ, ◌≡◌, true, eqb, List, [], ◌∷◌, Option, Some, sym, ap, ◌∙◌, subst}
use Rattle.std.proofs.lemmas.Bool.{and_parts, cond_both, eqb-true}
use Rattle.std.proofs.lemmas.List.Elements.{All-weaker}
use Rattle.dex_types.specs.declared.addresses.Address.{Address}
use Rattle.dex_types.specs.declared.orders.Order.{Order}
use Rattle.dex_types.specs.declared.terms.Lots.{Lots}
use Rattle.dex_types.specs.declared.terms.Side.{Side}
use Rattle.dex_types.specs.declared.terms.Side.TheVariants.{Bid, Ask}
use Rattle.dex_types.specs.Addresses.{is_same}
use Rattle.dex_types.specs.Cancel.{RestingOrder, without_order}
use Rattle.dex_types.specs.Market.{Market, orders}
use Rattle.dex_types.specs.Side.{by_side, sequence_of}
use Rattle.dex_types.specs.Soundness.{IsSound, held_at, held_by, order_holding}
use Rattle.dex_types.specs.Tokens.{is_same_side}
use Rattle.dex_types.specs.Trader.{Account, Holding, Open, trader_at}
use Rattle.dex_orders.specs.OrdersAccount.{account_of}
use Rattle.dex_accounts.specs.Parts.{AreSoundParts, HasOpen, MarketParts}
use Rattle.dex_accounts.proofs.PartLaws.{trader_at-open}
use Rattle.dex_laws.proofs.TraderLaws.{is_same-true, is_same-refl}
use Rattle.dex_sound.proofs.PlaceLaws.{is_same_side-true}
use Rattle.dex_sound.proofs.WithoutLaws.{All-without, InBookOrder-without_order}
use Rattle.dex_cancel.specs.TakenOff.{CancelGiven, Queue, without_all, without_one}
use Rattle.dex_cancel.specs.Parts.{AreOfSoundMarket, cancel_given}
use Rattle.dex_cancel.proofs.TakenOffLaws.{IsLeft}
use Rattle.dex_cancel_slots.specs.Given.{IsGiven, TwoSides, sides_by, sides_given}
use Rattle.dex_cancel_slots.specs.Slots.{DoSlotsName, DoSlotsNameOn, IsAsHeld, IsHeldIn, held_in}

-- ---- a sound market

module _ (owner : Address) (account : Account) (m : Market) (sound : IsSound m) (is_open : trader_at owner m.traders ≡ Some (Open account)) where
  -- what a slot holds is what the market's trader holds there
  held-at : (slot : ℕ) → held_at owner slot m.traders ≡ held_in account.slots slot
  held-at slot = ap (λ t. held_by t slot) is_open

  abbrev Rests : Side → Order → Type 0
  Rests side order = held_at order.owner order.slot m.traders ≡ Some (order_holding side order)

  is-held : (side : Side) (order : Order) → Rests side order → IsHeldIn owner account.slots side order
  is-held side order rests own =
      sym (held-at order.slot) ∙ subst (λ o. held_at o order.slot m.traders ≡ Some (order_holding side order)) (sym (is_same-true owner order.owner own)) rests

  is-as-held : (side : Side) (order : Order) → Rests side order → IsAsHeld owner account.slots side order
  is-as-held side order rests slot held holds one =
      let parts = and_parts (eqb held.id order.id) (is_same_side held.side side) one in
      let ids : held.id ≡ order.id = eqb-true held.id order.id parts.0 in
      let sides : held.side ≡ side = is_same_side-true held.side side parts.1 in
      let places = sound.slots.once owner order.owner slot order.slot held (order_holding side order) (held-at slot ∙ holds) rests
      (ap (λ s. sequence_of s held.id) sides ∙ ap (sequence_of side) ids) in
      let own : is_same owner order.owner ≡ true = subst (λ o. is_same owner o ≡ true) places.0 (is_same-refl owner) in
      let both : Some held ≡ Some (order_holding side order) =
      sym holds ∙ ap (held_in account.slots) places.1 ∙ is-held side order rests own in (own, cc)

  sound-on : (side : Side) → DoSlotsNameOn owner account.slots side (orders side m)
  sound-on side = record {
    in_order = sound.form.in_order side;
    held = All-weaker (Rests side) (IsHeldIn owner account.slots side) (is-held side) (orders side m) (sound.slots.resting side);
    as_held = All-weaker (Rests side) (IsAsHeld owner account.slots side) (is-as-held side) (orders side m) (sound.slots.resting side);
  }

  pub sound-names : DoSlotsName owner account.slots m.bids m.asks
  sound-names = record {
    on = sound-on;
    once = λ slot at held same holds also sequence.
        (sound.slots.once owner owner slot at held same (held-at slot ∙ holds) (held-at at ∙ also) sequence).1;
  }

-- the parts of a sound market
pub parts-name : (owner : Address) (bytes : List ℕ) (whole : MarketParts) → AreSoundParts whole → HasOpen owner bytes whole
    → DoSlotsName owner (account_of bytes).slots whole.bids whole.asks
parts-name owner bytes whole sound has =
    let names = sound-names owner (account_of bytes) sound.market sound.sound (trader_at-open whole sound.market sound.are owner bytes has) in
    subst (λ bids. DoSlotsName owner (account_of bytes).slots bids whole.asks) (sym sound.are.bids)
    (subst (λ asks. DoSlotsName owner (account_of bytes).slots sound.market.bids asks) (sym sound.are.asks) names)

-- what was given of them
pub sides-name : (owner : Address) (bytes : List ℕ) (bids asks : List Order) → IsGiven sides_given (sides_by bids asks) owner bytes
    → DoSlotsName owner (account_of bytes).slots bids asks
sides-name owner bytes bids asks is =
    subst (λ (s : TwoSides). DoSlotsName owner (account_of bytes).slots s.bids s.asks) is.is (parts-name owner bytes is.whole is.sound is.has)

pub given-names : (owner : Address) (bytes : List ℕ) (given : CancelGiven) → IsGiven cancel_given given owner bytes
    → DoSlotsName owner (account_of bytes).slots given.bids given.asks
given-names owner bytes given is =
    subst (λ (g : CancelGiven). DoSlotsName owner (account_of bytes).slots g.bids g.asks) is.is (parts-name owner bytes is.whole is.sound is.has)

-- so these are of a sound market
pub given-sound : (owner : Address) (bytes : List ℕ) (given : CancelGiven) → IsGiven cancel_given given owner bytes → AreOfSoundMarket given
given-sound owner bytes given is = record { whole = is.whole; sound = is.sound; given_is = is.is }

-- ---- orders leave

module _ (owner : Address) (slots : List (Option Holding)) where
  -- an order leaves its side
  pub on-without : (side : Side) (id : ℕ) (orders : List Order) → DoSlotsNameOn owner slots side orders → DoSlotsNameOn owner slots side (without_order id orders)
  on-without side id orders names = record {
    in_order = InBookOrder-without_order side id orders names.in_order;
    held = All-without (IsHeldIn owner slots side) id orders names.held;
    as_held = All-without (IsAsHeld owner slots side) id orders names.as_held;
  }

  -- orders leave a side, where they rest there
  pub on-without_all : (side : Side) (gone : List RestingOrder) (orders : List Order) → DoSlotsNameOn owner slots side orders → DoSlotsNameOn owner slots side (without_all side gone orders)
  on-without_all side [] orders names = names
  on-without_all side (first ∷ gone) orders names =
      on-without_all side gone (without_one side first orders)
      (cond_both (is_same_side side first.side) (without_order first.order.id orders) orders (DoSlotsNameOn owner slots side)
      (λ same. on-without side first.order.id orders names) (λ other. names))

  pub still-name : (gone : List RestingOrder) (bids asks : List Order) → DoSlotsName owner slots bids asks
      → DoSlotsName owner slots (without_all Bid gone bids) (without_all Ask gone asks)
  still-name gone bids asks names = record { on = each; once = names.once }
    where
      each : (side : Side) → DoSlotsNameOn owner slots side (by_side side (without_all Bid gone bids) (without_all Ask gone asks))
      each Bid = on-without_all Bid gone bids (names.on Bid)
      each Ask = on-without_all Ask gone asks (names.on Ask)

  -- so where some of the owner's orders left
  pub names-now : (sizes : Lots) (gone left : List RestingOrder) (bids asks : List Order) (ring : Queue) (bids_now asks_now : List Order) (ring_now : Queue)
      → IsLeft sizes owner gone left bids asks ring bids_now asks_now ring_now → DoSlotsName owner slots bids asks → DoSlotsName owner slots bids_now asks_now
  names-now sizes gone left bids asks ring bids_now asks_now ring_now held names =
      subst (λ os. DoSlotsName owner slots os asks_now) (sym held.bids_are)
      (subst (DoSlotsName owner slots (without_all Bid gone bids)) (sym held.asks_are) (still-name gone bids asks names))
