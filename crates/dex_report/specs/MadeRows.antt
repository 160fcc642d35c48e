-- The rows of made scripts.
use Rattle.std.specs.Prelude.{ℕ, ◌%◌, ◌==◌, ◌++◌, if◌then◌else◌, List, codes}
use Rattle.std.specs.Fmt.{decimal}
use Rattle.dex_types.specs.declared.terms.OrderType.{OrderType}
use Rattle.dex_types.specs.declared.terms.OrderType.TheVariants.{Limit, Ioc, PostOnly}
use Rattle.dex_types.specs.declared.terms.Side.{Side}
use Rattle.dex_types.specs.declared.terms.Side.TheVariants.{Bid, Ask}
use Rattle.dex_types.specs.Text.{spaced}
use Rattle.dex_report.specs.declared.made_rows.MadeInstruction.{MadeInstruction}
use Rattle.dex_report.specs.declared.made_rows.MadeInstruction.TheVariants.{New, Cancel, Settle}
use Rattle.dex_report.specs.declared.made_rows.MadeMarket.{MadeMarket}
use Rattle.dex_report.specs.declared.made_rows.MadeMarket.TheVariants.{First, Second}
use Rattle.dex_report.specs.Lines.{line}

-- the word of a side
abbrev pub side_text : Side → List ℕ
side_text Bid = codes "bid"
side_text Ask = codes "ask"

-- the word of an order type
abbrev pub type_text : OrderType → List ℕ
type_text Limit = codes "limit"
type_text Ioc = codes "ioc"
type_text PostOnly = codes "post"

-- the words of an instruction; a new order cancels own orders that it meets, and meets ten at most
abbrev pub asked_text : MadeInstruction → List ℕ
asked_text (New side price lots pc order_type client) =
    codes "new" ++ spaced (side_text side) ++ spaced (decimal price) ++ spaced (decimal lots) ++ spaced (decimal pc)
    ++ codes " cancel" ++ spaced (type_text order_type) ++ spaced (decimal client) ++ codes " 10"
asked_text (Cancel client) = codes "cancelc" ++ spaced (decimal client)
asked_text Settle = codes "settle"

-- the label of a market
abbrev pub market_text : MadeMarket → List ℕ
market_text First = codes "m0"
market_text Second = codes "m1"

-- the letter of a market's open-orders accounts
abbrev pub letter_text : MadeMarket → List ℕ
letter_text First = codes "a"
letter_text Second = codes "b"

-- the labels of all of a market's open-orders accounts
abbrev pub accounts_text : MadeMarket → List ℕ
accounts_text First = codes "a0 a1 a2 a3 a4 a5 a6 a7"
accounts_text Second = codes "b0 b1 b2 b3 b4 b5 b6 b7"

-- the first market for an even number, else the second
unfoldable pub market_by : ℕ → MadeMarket
market_by n = if n % 2 == 0 then First else Second

-- trader k's account on a market
unfoldable pub account_text : MadeMarket → ℕ → List ℕ
account_text market k = letter_text market ++ decimal k

-- the lane of trader k, a market, and the trader
unfoldable pub row_place : MadeMarket → ℕ → List ℕ
row_place market k = decimal (k % 4) ++ codes "," ++ market_text market ++ codes ",u" ++ decimal k

-- the row by which trader k opens the account on a market
abbrev pub opening_line : MadeMarket → ℕ → List ℕ
opening_line market k = line (codes "do," ++ row_place market k ++ codes "," ++ account_text market k ++ codes ",-,-,-,-,init")

-- the row by which trader k asks for this on a market
abbrev pub drawn_line : MadeMarket → ℕ → MadeInstruction → List ℕ
drawn_line market k asked =
    line (codes "do," ++ row_place market k ++ codes "," ++ account_text market k ++ codes ",c" ++ decimal k ++ codes ",q" ++ decimal k ++ codes ",-,-," ++ asked_text asked)

-- the row by which trader k consumes events for all accounts of a market
abbrev pub consuming_line : MadeMarket → ℕ → List ℕ
consuming_line market k = line (codes "do," ++ row_place market k ++ codes "," ++ accounts_text market ++ codes ",-,-,-,-,consume 1000")
