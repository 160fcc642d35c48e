-- a made market is sound
use Rattle.std.proofs.Common.{ℕ, ◌+◌, ◌≤◌, ◌<◌, ◌≡◌, List, [], ◌∷◌, Option, Some, None, length, refl, cond, Bool, true, false, arith, lit<}
use Rattle.std.specs.List.{All}
use Rattle.std.proofs.lemmas.List.Elements.{All-nil}
use Rattle.dex_types.specs.declared.addresses.Address.{Address}
use Rattle.dex_types.specs.declared.orders.Order.{Order}
use Rattle.dex_types.specs.declared.terms.Side.{Side}
use Rattle.dex_types.specs.declared.terms.Side.TheVariants.{Bid, Ask}
use Rattle.dex_types.specs.Addresses.{is_same}
use Rattle.dex_types.specs.Market.{Listing, orders, capacity}
use Rattle.dex_types.specs.Posting.{InBookOrder}
use Rattle.dex_types.specs.QueuedEvent.{QueuedEvent}
use Rattle.dex_types.specs.Side.{Token, Coin, Pc}
use Rattle.dex_types.specs.Solvency.{all_free, all_locked, all_owed, all_referrers, earned, vault, IsBounded}
use Rattle.dex_types.specs.Soundness.{IsSound, IsProper, held_at, held_by, order_holding}
use Rattle.dex_types.specs.Trader.{Account, Holding, Trader, Open, Blank, trader_at}
use Rattle.dex_sound.specs.Made.{blanks, made_market, CanMake}

-- a blank account, if there is one at an address at all
abbrev BlankOrNone : Option Trader → Type 0
BlankOrNone None = Unit {0}
BlankOrNone (Some Blank) = Unit {0}
BlankOrNone (Some _) = ⊥

cond-blank : (test : Bool) (other : Option Trader) → BlankOrNone other → BlankOrNone (cond test (Some Blank) other)
cond-blank true other is = tt
cond-blank false other is = is

blanks-only : (owner : Address) (addresses : List Address) → BlankOrNone (trader_at owner (blanks addresses))
blanks-only owner [] = tt
blanks-only owner (address ∷ addresses) =
    cond-blank (is_same owner address) (trader_at owner (blanks addresses)) (blanks-only owner addresses)

not-open : (found : Option Trader) (account : Account) → BlankOrNone found → found ≡ Some (Open account) → ⊥
not-open None account is e = absurd cc
not-open (Some Blank) account is e = absurd cc
not-open (Some _) account is e = is

-- no slot of a made market holds anything
held_by-none : (found : Option Trader) (slot : ℕ) (held : Holding) → BlankOrNone found → held_by found slot ≡ Some held → ⊥
held_by-none None slot held is e = absurd cc
held_by-none (Some Blank) slot held is e = absurd cc
held_by-none (Some _) slot held is e = is

held-none : (addresses : List Address) (owner : Address) (slot : ℕ) (held : Holding) → held_at owner slot (blanks addresses) ≡ Some held → ⊥
held-none addresses owner slot held = held_by-none (trader_at owner (blanks addresses)) slot held (blanks-only owner addresses)

-- nothing is free, and nothing is a referrer's
free-none : (token : Token) (addresses : List Address) → all_free token (blanks addresses) ≡ 0
free-none token [] = refl
free-none token (address ∷ addresses) = omega (arith, free-none token addresses)

referrers-none : (addresses : List Address) → all_referrers (blanks addresses) ≡ 0
referrers-none [] = refl
referrers-none (address ∷ addresses) = omega (arith, referrers-none addresses)

made-room : (listing : Listing) (addresses : List Address) → CanMake listing addresses → (side : Side) → 1 ≤ capacity side (made_market listing addresses)
made-room listing addresses can Bid = can.bids
made-room listing addresses can Ask = can.asks

made-order : (listing : Listing) (addresses : List Address) (side : Side) → InBookOrder side (orders side (made_market listing addresses))
made-order listing addresses Bid = tt
made-order listing addresses Ask = tt

made-all : (P : Side → Order → Type 0) (listing : Listing) (addresses : List Address) (side : Side) → All (P side) (orders side (made_market listing addresses))
made-all P listing addresses Bid = All-nil (P Bid)
made-all P listing addresses Ask = All-nil (P Ask)

made-within : (listing : Listing) (addresses : List Address) (side : Side) → length (orders side (made_market listing addresses)) ≤ capacity side (made_market listing addresses)
made-within listing addresses Bid = omega arith
made-within listing addresses Ask = omega arith

made-vaults : (listing : Listing) (addresses : List Address) (token : Token)
    → vault token (made_market listing addresses)
    ≡ all_free token (blanks addresses) + all_locked token (made_market listing addresses) + all_owed token [] + earned token (made_market listing addresses)
made-vaults listing addresses Coin = omega (arith, free-none Coin addresses)
made-vaults listing addresses Pc = omega (arith, free-none Pc addresses)

made-bounded : (listing : Listing) (addresses : List Address) → IsBounded (made_market listing addresses)
made-bounded listing addresses Coin = lit< tt
made-bounded listing addresses Pc = lit< tt

pub made_market-sound : (listing : Listing) (addresses : List Address) → CanMake listing addresses → IsSound (made_market listing addresses)
made_market-sound listing addresses can = record {
  form = record {
    mints = can.mints;
    coin_lot = can.coin_lot;
    pc_lot = can.pc_lot;
    room = made-room listing addresses can;
    in_order = made-order listing addresses;
    proper = made-all (λ side. IsProper side listing.sizes) listing addresses;
    within = made-within listing addresses;
    events_within = omega arith;
    tiers = All-nil (λ (event : QueuedEvent). event.tier < 7);
    sequence = lit< tt;
    counted = lit< tt;
    distinct = can.distinct;
    slots = λ owner account found. absurd (not-open (trader_at owner (blanks addresses)) account (blanks-only owner addresses) found);
  };
  slots = record {
    resting = made-all (λ side (order : Order). held_at order.owner order.slot (blanks addresses) ≡ Some (order_holding side order)) listing addresses;
    taken = λ owner slot held found. absurd (held-none addresses owner slot held found);
    pending = tt;
    given = λ owner slot held found. absurd (held-none addresses owner slot held found);
    once = λ owner other slot at held same found also one. absurd (held-none addresses owner slot held found);
  };
  funds = record {
    solvent = record { vaults = made-vaults listing addresses; referrers = omega (arith, referrers-none addresses) };
    adds_up = λ owner account found token. absurd (not-open (trader_at owner (blanks addresses)) account (blanks-only owner addresses) found);
    bounded = made-bounded listing addresses;
  };
}
