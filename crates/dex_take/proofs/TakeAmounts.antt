-- what a take meets fits 64 bits, and a sound market holds what it pays out
use Rattle.std.proofs.Common.{◌≡◌, ℕ, ◌+◌, ◌*◌, ◌^◌, ◌<◌, ◌≤◌, List, None, refl, sym, subst, arith}
use Rattle.std.proofs.lemmas.Bool.{leb-false}
use Rattle.dex_types.specs.declared.orders.Order.{Order}
use Rattle.dex_types.specs.declared.terms.Lots.{Lots}
use Rattle.dex_types.specs.declared.terms.Side.{Side}
use Rattle.dex_types.specs.declared.terms.Side.TheVariants.{Bid, Ask}
use Rattle.dex_types.specs.Market.{Market, orders}
use Rattle.dex_types.specs.Meeting.{Meeting}
use Rattle.dex_types.specs.Reasons.{ask_too_large}
use Rattle.dex_types.specs.Side.{Coin, Pc, by_side, opposite}
use Rattle.dex_types.specs.Soundness.{IsSound}
use Rattle.dex_types.specs.Take.{Take, take_demand, take_fee, take_lock, take_meeting, take_paid, take_terms}
use Rattle.dex_fees.proofs.FeeLaws.{fee-covers, taker_fee-le}
use Rattle.dex_laws.specs.Locks.{locked}
use Rattle.dex_laws.proofs.DemandLaws.{meet-rebates}
use Rattle.dex_laws.proofs.MovedLaws.{meet-moved_le}
use Rattle.dex_accounts.specs.Parts.{AreOf, MarketParts}
use Rattle.dex_accounts.proofs.PartLaws.{side_orders-parts}
use Rattle.dex_market.specs.StandsFor.{StandsForMarket, words_of}
use Rattle.dex_match.specs.declared.order_terms.Taker.{Taker}
use Rattle.dex_market.specs.MarketAccount.{sizes_of}
use Rattle.dex_market.specs.MarketAccount.{vault_of}
use Rattle.dex_match.proofs.FittingLaws.{fits-paid, locks-fit}
use Rattle.dex_fills.specs.Prospects.{FitsSums}
use Rattle.dex_ring.specs.StandsFor.{StandsForEvents, ring_of_market}
use Rattle.dex_sound.proofs.FillLaws.{take-within}
use Rattle.dex_sound.proofs.OrderSoundReasons.{refused_where-none}
use Rattle.dex_take.specs.TakeGiven.{IsOfSound, TakeGiven, TakeRead, read_of, take_given}
use Rattle.dex_take.specs.TakeTerms.{bare_take, take_of}
use Rattle.dex_take.specs.Taking.{IsBacked, meeting_in, plan_by, plan_in, transfers_by}

-- the fee of a take covers its makers' rebates, and is part of the quote
pub take-covers : (side : Side) (sizes : Lots) (t : Take) (opposing : List Order)
    → (take_meeting side sizes t opposing).rebates ≤ take_fee t (take_meeting side sizes t opposing)
take-covers side sizes t opposing =
    let met : Meeting = take_meeting side sizes t opposing in
    omega (arith, fee-covers t.program t.tier met.pc met.rebates (meet-rebates side (take_terms sizes t) (take_demand side sizes t) opposing))

pub take_fee-part : (t : Take) (met : Meeting) → take_fee t met ≤ met.pc
take_fee-part t met = taker_fee-le t.program t.tier met.pc

-- what a take may use fits, where its size was not refused
pub lock-fits : (side : Side) (sizes : Lots) (t : Take) → ask_too_large side sizes t.lots ≡ None → t.max_pc < 2 ^ 64 → take_lock side sizes t < 2 ^ 64
lock-fits Bid sizes t none small = small
lock-fits Ask sizes t none small = leb-false (2 ^ 64) (t.lots * sizes.coin) (refused_where-none _ _ none)

paid-by_side : (side : Side) (sizes : Lots) (t : Take) (met : Meeting) → by_side side (met.pc + take_fee t met) (met.lots * sizes.coin) ≡ take_paid side sizes t met
paid-by_side Bid sizes t met = refl
paid-by_side Ask sizes t met = refl

-- the sums of what a take meets fit
pub fits-take : (side : Side) (sizes : Lots) (t : Take) (opposing : List Order) → t.lots < 2 ^ 64 → take_lock side sizes t < 2 ^ 64
    → locked (opposite side) sizes opposing < 2 ^ 64 → FitsSums side sizes (take_meeting side sizes t opposing)
fits-take side sizes t opposing lots lock locks =
    let met : Meeting = take_meeting side sizes t opposing in
    fits-paid side (take_terms sizes t) (take_demand side sizes t) opposing (take_fee t met) (take_lock side sizes t) lots lock locks (take-covers side sizes t opposing)
    (rw (paid-by_side side sizes t met) (take-within side sizes t opposing))

-- the quote of a bid fits with its fee
pub quote-fits : (side : Side) (sizes : Lots) (t : Take) (opposing : List Order) → take_lock side sizes t < 2 ^ 64 → side ≡ Bid
    → (take_meeting side sizes t opposing).pc + take_fee t (take_meeting side sizes t opposing) < 2 ^ 64
quote-fits Bid sizes t opposing lock bid = omega (arith, lock, take-within Bid sizes t opposing)
quote-fits Ask sizes t opposing lock bid = absurd cc

-- a take meets and does the same whatever it has to fill at least
pub bare-meeting : (side : Side) (sizes : Lots) (taker : Taker) (min_lots min_pc : ℕ) (opposing : List Order)
    → take_meeting side sizes (bare_take taker) opposing ≡ take_meeting side sizes (take_of taker min_lots min_pc) opposing
bare-meeting Bid sizes taker min_lots min_pc opposing = refl
bare-meeting Ask sizes taker min_lots min_pc opposing = refl

pub bare-plan : (side : Side) (sizes : Lots) (taker : Taker) (min_lots min_pc : ℕ) (opposing : List Order)
    → plan_by side sizes (bare_take taker) (take_meeting side sizes (bare_take taker) opposing)
    ≡ plan_by side sizes (take_of taker min_lots min_pc) (take_meeting side sizes (take_of taker min_lots min_pc) opposing)
bare-plan Bid sizes taker min_lots min_pc opposing = refl
bare-plan Ask sizes taker min_lots min_pc opposing = refl

-- what a take reads of a market
abbrev pub of_market : Side → Market → TakeRead
of_market side m = record { words = words_of m; ring = ring_of_market m; opposing = orders (opposite side) m }

-- what is given is of this market, for a take of this side
pub record IsGivenOf (side : Side) (given : TakeGiven) (m : Market) : Type 0 where
  pub market : StandsForMarket given.market m
  pub events : StandsForEvents given.events m
  pub opposing : orders (opposite side) m ≡ given.opposing

pub given-of : (side : Side) (parts : MarketParts) (m : Market) → AreOf parts m → IsGivenOf side (take_given side parts) m
given-of side parts m are = record { market = are.market; events = are.events; opposing = sym (side_orders-parts parts m are (opposite side)) }

pub read-of : (side : Side) (given : TakeGiven) (m : Market) → IsGivenOf side given m → read_of given ≡ of_market side m
read-of side given m is = rw (is.market.words, is.events.ring, is.opposing) refl

-- what is given of the parts of a sound market is of that market
pub record IsGivenOfSound (side : Side) (given : TakeGiven) : Type 0 where
  pub market : Market
  pub sound : IsSound market
  pub of : IsGivenOf side given market

pub given-of_sound : (side : Side) (given : TakeGiven) → IsOfSound side given → IsGivenOfSound side given
given-of_sound side given is =
    let m : Market = is.sound.market in
    record { market = m; sound = is.sound.sound; of = subst (λ (g : TakeGiven). IsGivenOf side g m) is.is (given-of side is.whole m is.sound.are) }

pub meeting-of : (side : Side) (t : Take) (m : Market) → meeting_in side t (of_market side m) ≡ take_meeting side m.listing.sizes t (orders (opposite side) m)
meeting-of side t m = refl

-- in a sound market what the side that is met locks is in its vault
backed-market : (side : Side) (m : Market) → IsSound m → IsBacked side (of_market side m)
backed-market Bid m sound = record { fits = locks-fit Bid m sound; held = omega (arith, sound.funds.solvent.vaults Coin) }
backed-market Ask m sound = record { fits = locks-fit Ask m sound; held = omega (arith, sound.funds.solvent.vaults Pc) }

pub backed : (side : Side) (given : TakeGiven) (m : Market) → IsSound m → IsGivenOf side given m → IsBacked side (read_of given)
backed side given m sound of = subst (IsBacked side) (sym (read-of side given m of)) (backed-market side m sound)

pub backed-sound : (side : Side) (given : TakeGiven) → IsOfSound side given → IsBacked side (read_of given)
backed-sound side given is =
    let found : IsGivenOfSound side given = given-of_sound side given is in
    backed side given found.market found.sound found.of

-- so what a take pays out is there
pub record IsPaidOut (side : Side) (t : Take) (parts : TakeRead) : Type 0 where
  pub coin : (transfers_by side (plan_in side t parts)).coin_out ≤ vault_of Coin parts.words
  pub pc : (transfers_by side (plan_in side t parts)).pc_out ≤ vault_of Pc parts.words

pub paid-out : (side : Side) (t : Take) (parts : TakeRead) → IsBacked side parts → IsPaidOut side t parts
paid-out Bid t parts backed =
    record {
      coin = omega (arith, backed.held, meet-moved_le Bid (take_terms (sizes_of parts.words) t) (take_demand Bid (sizes_of parts.words) t) parts.opposing);
      pc = omega arith;
    }
paid-out Ask t parts backed =
    record {
      coin = omega arith;
      pc = omega (arith, backed.held, meet-moved_le Ask (take_terms (sizes_of parts.words) t) (take_demand Ask (sizes_of parts.words) t) parts.opposing);
    }
