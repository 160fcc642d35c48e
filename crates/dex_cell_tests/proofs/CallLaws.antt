-- What public calls of the step crates are given of a sound market's accounts.
use Rattle.std.proofs.Common.{◌≡◌, ℕ, List, refl, sym, subst}
use Rattle.dex_types.specs.declared.addresses.Address.{Address}
use Rattle.dex_types.specs.declared.terms.Lots.{Lots}
use Rattle.dex_types.specs.declared.terms.Side.{Side}
use Rattle.dex_types.specs.declared.terms.Side.TheVariants.{Bid, Ask}
use Rattle.dex_types.specs.Accounts.{PlainMarketAccounts}
use Rattle.dex_types.specs.Side.{opposite}
use Rattle.dex_accounts.specs.Decoded.{AreSound}
use Rattle.dex_accounts.specs.Parts.{HasOpen, parts_of}
use Rattle.dex_cancel.specs.TakenOff.{CancelGiven}
use Rattle.dex_cancel.specs.Parts.{AreOfSoundMarket}
use Rattle.dex_crank.specs.Parts as crank
use Rattle.dex_plan.specs.Given.{bytes_on}
use Rattle.dex_decide.proofs.OrderLaws.{order-shown}
use Rattle.dex_decide.proofs.PartLaws.{sound-parts}
use Rattle.dex_decide.proofs.TakeLaws.{take-shown, take-sound}
use Rattle.dex_market.specs.MarketAccount.{market_words, sizes_of}
use Rattle.dex_match.specs.OrderParts.{IsGiven, OrderGiven, given_by}
use Rattle.dex_slab.specs.Slab.{resting, room_in}
use Rattle.dex_take.specs.TakeGiven.{IsOfSound, TakeGiven, given}

module _ (accounts : PlainMarketAccounts) (sound : AreSound accounts) where
  -- an order of an open account
  pub order-can : (side : Side) (owner : Address) (held : List ℕ) → HasOpen owner held (parts_of accounts)
      → (market requests events own opposing : List ℕ) (own_side opposing_side : Side) → market ≡ accounts.market → requests ≡ accounts.requests
      → events ≡ accounts.events → own ≡ bytes_on side accounts → opposing ≡ bytes_on (opposite side) accounts → own_side ≡ side → opposing_side ≡ opposite side
      → IsGiven side owner (given_by market requests events held (resting own_side own) (room_in own) (resting opposing_side opposing))
  order-can side owner held has market requests events own opposing own_side opposing_side a b c d e f g =
      subst (λ (h : OrderGiven). IsGiven side owner h)
      (sym (order-shown accounts sound side held market requests events own opposing own_side opposing_side a b c d e f g))
      (record { whole = parts_of accounts; sound = sound-parts accounts sound; has = has; is = refl })

  -- a take
  pub take-can : (side : Side) (market events opposing : List ℕ) (opposing_side : Side) → market ≡ accounts.market → events ≡ accounts.events
      → opposing ≡ bytes_on (opposite side) accounts → opposing_side ≡ opposite side → IsOfSound side (given market events (resting opposing_side opposing))
  take-can side market events opposing opposing_side a b c d =
      subst (λ (h : TakeGiven). IsOfSound side h) (sym (take-shown accounts sound side market events opposing opposing_side a b c d)) (take-sound accounts sound side)

  -- what a cancel is handed
  abbrev handed_of : Lots → CancelGiven
  handed_of sizes = record { sizes = sizes; bids = resting Bid accounts.bids; asks = resting Ask accounts.asks; queue = accounts.events }

  -- a cancel
  pub cancel-can : (sizes : Lots) → sizes ≡ sizes_of (market_words accounts.market)
      → AreOfSoundMarket (handed_of sizes)
  cancel-can sizes is =
      subst (λ (l : Lots). AreOfSoundMarket (handed_of l)) (sym is)
      (record { whole = parts_of accounts; sound = sound-parts accounts sound; given_is = refl })

  -- events that are consumed
  pub consume-can : crank.AreOfSoundMarket (record { queue = accounts.events; accounts = accounts.orders })
  consume-can = record { whole = parts_of accounts; sound = sound-parts accounts sound; given = refl }
