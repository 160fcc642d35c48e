-- What a row `book` is answered.
use Rattle.std.specs.Prelude.{◌==◌, ◌+◌, ◌-◌, ◌^◌, ℕ, zero, suc, min, if◌then◌else◌, List, [], ◌∷◌, ◌++◌, codes, Option}
use Rattle.std.specs.Fmt.{decimal}
use Rattle.dex_types.specs.declared.addresses.Address.{Address}
use Rattle.dex_types.specs.declared.orders.Order.{Order}
use Rattle.dex_types.specs.declared.terms.Side.{Side}
use Rattle.dex_types.specs.declared.terms.Side.TheVariants.{Ask, Bid}
use Rattle.dex_types.specs.Accounts.{PlainMarketAccounts}
use Rattle.dex_types.specs.Addresses.{is_same}
use Rattle.dex_types.specs.Side.{price_of}
use Rattle.dex_types.specs.Text.{spaced}
use Rattle.dex_refusal_lines.specs.Lines.{line}
use Rattle.dex_script_types.specs.Firsts.{first_of}
use Rattle.dex_slab.specs.Slab.{resting}

-- the lots of the orders at the front that have this price
abbrev pub lots_at : ℕ → List Order → ℕ
lots_at price [] = 0
lots_at price (order ∷ orders) = if price_of order.id == price then order.lots + lots_at price orders else 0

-- the orders behind those
abbrev pub behind_price : ℕ → List Order → List Order
behind_price price [] = []
behind_price price (order ∷ orders) = if price_of order.id == price then behind_price price orders else order ∷ orders

-- 2^64 - 1 at most
abbrev pub capped : ℕ → ℕ
capped lots = min lots (2 ^ 64 - 1)

-- the word of a side
abbrev pub side_word : Side → List ℕ
side_word Bid = codes "bid"
side_word Ask = codes "ask"

-- a price, and the lots that rest there
abbrev pub level_text : Side → ℕ → ℕ → List ℕ
level_text side price lots = line (side_word side ++ spaced (decimal price) ++ spaced (decimal lots))

-- so many prices of a side at most, from the best on
abbrev pub side_lines : Side → ℕ → List Order → List ℕ
side_lines side zero orders = []
side_lines side (suc depth) [] = []
side_lines side (suc depth) (order ∷ orders) =
    let price = price_of order.id in
    level_text side price (capped (lots_at price (order ∷ orders)))
    ++ side_lines side depth (behind_price price (order ∷ orders))

-- the book of a market
abbrev pub book_text : ℕ → PlainMarketAccounts → List ℕ
book_text depth accounts =
    line (codes "book") ++ side_lines Bid depth (resting Bid accounts.bids)
    ++ side_lines Ask depth (resting Ask accounts.asks) ++ line (codes "end")

-- the first market of an address
abbrev pub found_market : Address → List PlainMarketAccounts → Option PlainMarketAccounts
found_market address markets =
    first_of (λ (accounts : PlainMarketAccounts). is_same address accounts.address)
    (λ (accounts : PlainMarketAccounts). accounts) markets
