-- what the parts of one sound market are by themselves
use Rattle.std.proofs.Common.{◌≡◌, ◌^◌, ◌<◌, Bool, true, false, cond, List, refl, ap, sym, subst}
use Rattle.dex_laws.specs.Locks.{locked}
use Rattle.dex_market.specs.MarketAccount.{market_words}
use Rattle.dex_types.specs.declared.addresses.Address.{Address}
use Rattle.dex_types.specs.declared.orders.Order.{Order}
use Rattle.dex_types.specs.declared.terms.Lots.{Lots}
use Rattle.dex_types.specs.declared.terms.Side.{Side}
use Rattle.dex_types.specs.Side.{opposite}
use Rattle.dex_types.specs.Trader.{Account, Blank, Closed, Open}
use Rattle.dex_match.specs.OrderParts.{OrderGiven}
use Rattle.dex_match.proofs.PartsLaws.{SoundGiven}
use Rattle.dex_market.specs.MarketAccount.{sizes_of}
use Rattle.dex_match.proofs.FittingLaws.{locks-fit}

open-by : (is_open is_closed : Bool) (account known : Account) → cond is_open (Open account) (cond is_closed Closed Blank) ≡ Open known → is_open ≡ true
open-by true is_closed account known is = refl
open-by false true account known is = absurd cc
open-by false false account known is = absurd cc

-- what the other side locks fits
pub locks-given : (side : Side) (owner : Address) (given : OrderGiven) → SoundGiven side owner given
    → locked (opposite side) (sizes_of (market_words given.market)) given.opposing < 2 ^ 64
locks-given side owner given whole =
    let sizes : sizes_of (market_words given.market) ≡ whole.market.listing.sizes = ap sizes_of whole.parts.market.words in
    subst (λ (s : Lots). locked (opposite side) s given.opposing < 2 ^ 64) (sym sizes)
    (subst (λ (os : List Order). locked (opposite side) whole.market.listing.sizes os < 2 ^ 64) whole.parts.opposing (locks-fit side whole.market whole.sound))
