-- a take leaves a sound market
use Rattle.std.proofs.Common.{ℕ, ◌+◌, ◌^◌, ◌≤◌, ◌<◌, ◌≡◌, List, None, length, length-append, arith}
use Rattle.std.specs.List.{All}
use Rattle.std.proofs.lemmas.List.Elements.{All-append, All-weaker}
use Rattle.std.proofs.lemmas.Nat.{mod_below}
use Rattle.dex_types.specs.declared.addresses.Address.{Address}
use Rattle.dex_types.specs.declared.orders.Order.{Order}
use Rattle.dex_types.specs.declared.rows.Seen.{Seen}
use Rattle.dex_types.specs.declared.terms.Lots.{Lots}
use Rattle.dex_types.specs.declared.terms.Side.{Side}
use Rattle.dex_types.specs.declared.terms.Side.TheVariants.{Bid, Ask}
use Rattle.dex_types.specs.Market.{Market, orders, capacity}
use Rattle.dex_types.specs.Meeting.{TakerTerms, Demand, Meeting}
use Rattle.dex_types.specs.Owed.{owed, kept, referred, is_order_of, is_event_of}
use Rattle.dex_types.specs.Posting.{InBookOrder}
use Rattle.dex_types.specs.QueuedEvent.{QueuedEvent}
use Rattle.dex_types.specs.Requests.{Request}
use Rattle.dex_types.specs.Side.{Token, Coin, Pc, opposite}
use Rattle.dex_types.specs.Solvency.{IsSolvent, IsBounded, vault, all_free, all_locked, all_owed, earned, own_locked, own_kept}
use Rattle.dex_types.specs.Soundness.{IsSound, IsWellFormed, FundsAgree, IsProper, held_at}
use Rattle.dex_types.specs.Take.{Take, take_terms, take_demand, take_meeting, take_fee, after_take}
use Rattle.dex_types.specs.Totals.{weighed_where}
use Rattle.dex_types.specs.Why.{take_reading, why_take, why_taking}
use Rattle.dex_laws.proofs.LeftLaws.{meet-left, length-left, InBookOrder-left}
use Rattle.dex_laws.proofs.LockLaws.{meet-places}
use Rattle.dex_laws.proofs.MovedLaws.{IsTestOfOrder-owner}
use Rattle.dex_laws.proofs.TotalLaws.{total-append}
use Rattle.dex_sound.specs.Places.{PlacesAgree, rests_at, ends_here, ends_at, is_taken}
use Rattle.dex_sound.proofs.FillLaws.{take-balanced}
use Rattle.dex_sound.proofs.MeetPlaces.{counts-sides, is_taken-le, NoneEnds, EndLast-behind, ends-freed, meet-rested, meet-ends_last}
use Rattle.dex_sound.proofs.MeetSides.{IsResting, IsPending, proper-left, priced, resting-left, pending-met, tiers-met}
use Rattle.dex_sound.proofs.MeetSums.{balanced-owed, met-locked, met-own, met-locked_all, met-own_all, met-referred}
use Rattle.dex_sound.proofs.OrderSoundReasons.{queue_full-none, IsBounded-none, take-none, taking-none}
use Rattle.dex_sound.proofs.PlaceLaws.{SlotsAgree-places}
use Rattle.dex_sound.proofs.PlaceParts.{sides-hold, put-sides-sum}

-- what a take meets on a market, and what it leaves
abbrev pub met_of : Side → Take → Market → Meeting
met_of side t m = take_meeting side m.listing.sizes t (orders (opposite side) m)

abbrev pub taken_market : Side → Take → Market → Market
taken_market side t m = after_take side t (met_of side t m) m

-- its events have room, and the sums are within the bound
record IsAllowed (side : Side) (t : Take) (m : Market) : Type 0 where
  room : length m.events + length (met_of side t m).events ≤ m.listing.event_capacity
  bounded : IsBounded (taken_market side t m)

-- where a take is not refused once it may be asked for
allowed : (side : Side) (t : Take) (seen : Seen) (m : Market) → IsWellFormed m → why_taking side t seen (take_reading side t seen m) ≡ None → IsAllowed side t m
allowed side t seen m form none =
    let met : Meeting = met_of side t m in
    let after : Market = taken_market side t m in
    let taking = (taking-none side t seen (take_reading side t seen m) none).taking in
    record {
      room = queue_full-none (length met.events) m taking.1.0 form.events_within;
      bounded = IsBounded-none after taking.1.1.1.1.1.0 taking.1.1.1.1.1.1.0;
    }

-- its form
take-form : (side : Side) (t : Take) (m : Market) → IsWellFormed m → IsAllowed side t m → IsWellFormed (taken_market side t m)
take-form side t m form allowed =
    let met : Meeting = met_of side t m in
    let opposing : List Order = orders (opposite side) m in
    let terms : TakerTerms = take_terms m.listing.sizes t in
    let wants : Demand = take_demand side m.listing.sizes t in
    let is_left = meet-left side terms wants opposing in
    record {
      mints = form.mints;
      coin_lot = form.coin_lot;
      pc_lot = form.pc_lot;
      room = form.room;
      in_order = sides-hold InBookOrder side (orders side m) met.left m (form.in_order side) (InBookOrder-left (opposite side) met.left opposing is_left (form.in_order (opposite side)));
      proper = sides-hold (λ each list. All (IsProper each m.listing.sizes) list) side (orders side m) met.left m (form.proper side)
          (proper-left (opposite side) m.listing.sizes side terms wants opposing (form.proper (opposite side)));
      within = sides-hold (λ each list. length list ≤ capacity each m) side (orders side m) met.left m (form.within side)
          (omega (arith, length-left met.left opposing is_left, form.within (opposite side)));
      events_within = omega (arith, allowed.room, length-append m.events met.events);
      tiers = All-append (λ (e : QueuedEvent). e.tier < 7) m.events met.events form.tiers
          (tiers-met (opposite side) m.listing.sizes side terms wants opposing (form.proper (opposite side)));
      sequence = form.sequence;
      counted = mod_below (m.events_appended + length met.events) (2 ^ 64) (omega arith);
      distinct = form.distinct;
      slots = form.slots;
    }

-- its slots
take-places : (side : Side) (t : Take) (m : Market) → IsWellFormed m → PlacesAgree m → PlacesAgree (taken_market side t m)
take-places side t m form agree =
    let met : Meeting = met_of side t m in
    let own : List Order = orders side m in
    let opposing : List Order = orders (opposite side) m in
    let terms : TakerTerms = take_terms m.listing.sizes t in
    let wants : Demand = take_demand side m.listing.sizes t in
    let both : (owner : Address) (slot : ℕ) → rests_at owner slot own + rests_at owner slot opposing + ends_at owner slot m.events ≡ is_taken (held_at owner slot m.traders) =
    counts-sides side m agree in
    record {
      resting = sides-hold (λ each list. All (IsResting m.traders each) list) side own met.left m (agree.resting side)
          (resting-left m.traders (opposite side) side terms wants opposing (agree.resting (opposite side)));
      pending = All-append (IsPending m.traders) m.events met.events agree.pending (pending-met m.traders side terms wants opposing (agree.resting (opposite side)));
      counts = λ owner slot.
          omega (
            arith,
            both owner slot,
            put-sides-sum (rests_at owner slot) side own met.left m,
            meet-places owner slot side terms form.coin_lot form.pc_lot wants opposing (priced (opposite side) m.listing.sizes opposing (form.proper (opposite side))),
            ends-freed owner slot met.events,
            total-append (ends_here owner slot) m.events met.events,
          );
      last = EndLast-behind m.events met.events agree.last
          (meet-ends_last side terms wants opposing (λ owner slot. omega (arith, both owner slot, is_taken-le (held_at owner slot m.traders))))
          (All-weaker (λ (e : QueuedEvent). 1 ≤ rests_at e.owner e.slot opposing) (NoneEnds m.events)
          (λ e rests. omega (arith, rests, both e.owner e.slot, is_taken-le (held_at e.owner e.slot m.traders)))
          met.events (meet-rested side terms wants opposing));
      given = agree.given;
      once = agree.once;
    }

-- what vaults hold
take-vaults : (side : Side) (t : Take) (m : Market) → IsSolvent m → (token : Token)
    → vault token (taken_market side t m)
    ≡ all_free token m.traders + all_locked token (taken_market side t m) + all_owed token (taken_market side t m).events + earned token (taken_market side t m)
take-vaults Bid t m solvent Coin =
    let sizes : Lots = m.listing.sizes in
    omega (
      arith,
      solvent.vaults Coin,
      balanced-owed Bid sizes (met_of Bid t m) (take_fee t (met_of Bid t m)) Coin (take-balanced Bid sizes t m.asks Coin),
      met-locked_all Bid (take_terms sizes t) (take_demand Bid sizes t) m.asks,
      total-append (owed Coin) m.events (met_of Bid t m).events,
    )
take-vaults Bid t m solvent Pc =
    let sizes : Lots = m.listing.sizes in
    omega (
      arith,
      solvent.vaults Pc,
      balanced-owed Bid sizes (met_of Bid t m) (take_fee t (met_of Bid t m)) Pc (take-balanced Bid sizes t m.asks Pc),
      met-own_all Bid (take_terms sizes t) (take_demand Bid sizes t) m.asks,
      total-append (owed Pc) m.events (met_of Bid t m).events,
    )
take-vaults Ask t m solvent Coin =
    let sizes : Lots = m.listing.sizes in
    omega (
      arith,
      solvent.vaults Coin,
      balanced-owed Ask sizes (met_of Ask t m) (take_fee t (met_of Ask t m)) Coin (take-balanced Ask sizes t m.bids Coin),
      met-own_all Ask (take_terms sizes t) (take_demand Ask sizes t) m.bids,
      total-append (owed Coin) m.events (met_of Ask t m).events,
    )
take-vaults Ask t m solvent Pc =
    let sizes : Lots = m.listing.sizes in
    omega (
      arith,
      solvent.vaults Pc,
      balanced-owed Ask sizes (met_of Ask t m) (take_fee t (met_of Ask t m)) Pc (take-balanced Ask sizes t m.bids Pc),
      met-locked_all Ask (take_terms sizes t) (take_demand Ask sizes t) m.bids,
      total-append (owed Pc) m.events (met_of Ask t m).events,
    )

-- what an owner's orders lock, and what its events keep, together stay
take-own : (side : Side) (t : Take) (m : Market) (token : Token) (owner : Address)
    → own_locked token owner (taken_market side t m) + own_kept token owner (met_of side t m).events ≡ own_locked token owner m
take-own Bid t m Coin owner =
    omega (arith, met-locked (is_order_of owner) (is_event_of owner) (IsTestOfOrder-owner owner) Bid (take_terms m.listing.sizes t) (take_demand Bid m.listing.sizes t) m.asks)
take-own Bid t m Pc owner =
    omega (arith, met-own (is_event_of owner) Bid (take_terms m.listing.sizes t) (take_demand Bid m.listing.sizes t) m.asks)
take-own Ask t m Coin owner =
    omega (arith, met-own (is_event_of owner) Ask (take_terms m.listing.sizes t) (take_demand Ask m.listing.sizes t) m.bids)
take-own Ask t m Pc owner =
    omega (arith, met-locked (is_order_of owner) (is_event_of owner) (IsTestOfOrder-owner owner) Ask (take_terms m.listing.sizes t) (take_demand Ask m.listing.sizes t) m.bids)

-- its funds
take-funds : (side : Side) (t : Take) (m : Market) → FundsAgree m → IsAllowed side t m → FundsAgree (taken_market side t m)
take-funds side t m funds allowed =
    let met : Meeting = met_of side t m in
    let opposing : List Order = orders (opposite side) m in
    record {
      solvent = record {
        vaults = take-vaults side t m funds.solvent;
        referrers = omega (
          arith,
          funds.solvent.referrers,
          met-referred side (take_terms m.listing.sizes t) (take_demand side m.listing.sizes t) opposing,
          total-append referred m.events met.events,
        );
      };
      adds_up = λ owner account found token.
          omega (
            arith,
            funds.adds_up owner account found token,
            take-own side t m token owner,
            total-append (weighed_where (is_event_of owner) (kept token)) m.events met.events,
          );
      bounded = allowed.bounded;
    }

-- a take that is not refused for its size and what it would do leaves a sound market
pub taking-sound : (side : Side) (t : Take) (seen : Seen) (m : Market) → IsSound m → why_taking side t seen (take_reading side t seen m) ≡ None → IsSound (taken_market side t m)
taking-sound side t seen m sound none =
    let may : IsAllowed side t m = allowed side t seen m sound.form none in
    record {
      form = take-form side t m sound.form may;
      slots = (SlotsAgree-places (taken_market side t m)).1 (take-places side t m sound.form ((SlotsAgree-places m).0 sound.slots));
      funds = take-funds side t m sound.funds may;
    }

-- and so does one that is not refused at all
pub take-sound : (side : Side) (t : Take) (request : Request) (seen : Seen) (m : Market) → IsSound m → why_take side t request seen m ≡ None
    → IsSound (after_take side t (take_meeting side m.listing.sizes t (orders (opposite side) m)) m)
take-sound side t request seen m sound none = taking-sound side t seen m sound (take-none side t request seen m none).accepted
