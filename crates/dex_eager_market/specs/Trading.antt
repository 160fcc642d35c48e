-- What a new order or a take does to both sides and to accounts.
use Rattle.std.specs.Prelude.{ℕ, ◌+◌, ◌-◌, ◌*◌, ◌^◌, ◌<◌, ◌≡◌, ◌||◌, ◌==◌, List, Option, Some, None, Bool, true, false, nat_le, is_some, if◌then◌else◌}
use Rattle.dex_types.specs.declared.orders.Order.{Order}
use Rattle.dex_types.specs.declared.terms.Lots.{Lots}
use Rattle.dex_types.specs.declared.terms.OrderType.{OrderType}
use Rattle.dex_types.specs.declared.terms.Side.{Side}
use Rattle.dex_types.specs.declared.terms.Side.TheVariants.{Bid, Ask}
use Rattle.dex_types.specs.Meeting.{Meeting}
use Rattle.dex_types.specs.NewOrder.{demand_of, full_lock}
use Rattle.dex_types.specs.Posting.{affordable, can_rest}
use Rattle.dex_eager.specs.Eager.{is_too_large}
use Rattle.dex_fills.specs.declared.fills.Fill.{Fill}
use Rattle.dex_match.specs.declared.order_terms.Taker.{Taker}
use Rattle.dex_match.specs.OrderTerms.{meeting_with as order_met, order_of}
use Rattle.dex_take.specs.TakeTerms.{meeting_with as take_met}
use Rattle.dex_eager_market.specs.declared.accounts.Change.{Change}
use Rattle.dex_eager_market.specs.Accounts.{traded}
use Rattle.dex_eager_market.specs.declared.foreseeing.ListProspect.{ListProspect}
use Rattle.dex_eager_market.specs.Foreseen.{IsForeseen, IsModest}

-- the base of an ask is 2^64 or more
abbrev pub base_too_large : Side → Lots → ℕ → Bool
base_too_large Bid sizes lots = false
base_too_large Ask sizes lots = nat_le (2 ^ 64) (lots * sizes.coin)

-- the quote that an ask trades is 2^64 or more
abbrev pub quote_too_large : Side → ℕ → Bool
quote_too_large Bid pc = false
quote_too_large Ask pc = nat_le (2 ^ 64) pc

-- what a taker of so much base and quote gets and pays: a bid gets base and pays quote and the fee, an ask pays base
-- and gets quote less the fee
abbrev pub taker_change : Side → ℕ → ℕ → ℕ → Change
taker_change Bid base pc fee = traded Bid base (pc + fee)
taker_change Ask base pc fee = traded Ask base (pc - fee)

-- what a fill of the taker's side changes for the maker: an ask pays base and gets quote and the rebate, a bid gets
-- base and pays quote less the rebate
abbrev pub maker_change : Side → Fill → Change
maker_change Bid fill = traded Ask fill.base (fill.pc + fill.rebate)
maker_change Ask fill = traded Bid fill.base (fill.pc - fill.rebate)

-- the lots that rest of an order, where so much of a bid's lock is left
abbrev pub rested_by : Side → Lots → OrderType → ℕ → Bool → ℕ → ℕ → ℕ
rested_by side sizes order_type price crosses lots left =
    if can_rest order_type then (if crosses then 0 else affordable side sizes price lots left) else 0

-- what was foreseen stops a new order: it is too large, there is no sequence number for it, or it would have to abort
abbrev pub stops : Side → ℕ → ℕ → Bool → Bool
stops side pc next aborts = quote_too_large side pc || (next == 2 ^ 64 - 1) || aborts

-- a meeting was foreseen whose sums are those of a trade
pub record IsTrade (sizes : Lots) (taker : Taker) (orders : List Order) (met : Meeting) (foreseen : ListProspect) : Type 0 where
  pub reached : IsForeseen taker.id_side sizes taker.price orders met foreseen
  pub modest : IsModest taker.id_side sizes (demand_of taker.id_side sizes (order_of taker))
  pub lock : full_lock taker.id_side sizes (order_of taker) < 2 ^ 64
  pub base : foreseen.sums.base < 2 ^ 81
  pub pc : foreseen.sums.pc < 2 ^ 64

-- what was foreseen of a new order, or that it changes nothing
abbrev pub IsOrderForeseen : Lots → Taker → ℕ → List Order → Option ListProspect → Type 0
IsOrderForeseen sizes taker next orders None =
    is_too_large taker.id_side sizes taker.lots (order_met sizes taker orders) || (next == 2 ^ 64 - 1) || is_some (order_met sizes taker orders).aborts ≡ true
IsOrderForeseen sizes taker next orders (Some foreseen) =
    (is_too_large taker.id_side sizes taker.lots (order_met sizes taker orders) || (next == 2 ^ 64 - 1) || is_some (order_met sizes taker orders).aborts ≡ false)
    × (next < 2 ^ 64 - 1) × IsTrade sizes taker orders (order_met sizes taker orders) foreseen

-- what was foreseen of a take, or that it is too large
abbrev pub IsTakeForeseen : Lots → Taker → List Order → Option ListProspect → Type 0
IsTakeForeseen sizes taker orders None = is_too_large taker.id_side sizes taker.lots (take_met sizes taker orders) ≡ true
IsTakeForeseen sizes taker orders (Some foreseen) =
    (is_too_large taker.id_side sizes taker.lots (take_met sizes taker orders) ≡ false) × IsTrade sizes taker orders (take_met sizes taker orders) foreseen
