-- The text of a table of worth.
use Rattle.std.specs.Prelude.{ℕ, List, [], ◌∷◌, ◌++◌, codes}
use Rattle.std.specs.Fmt.{decimal, signed_decimal}
use Rattle.std.specs.List.{flat_map}
use Rattle.dex_types.specs.Text.{address_text, spaced}
use Rattle.dex_replay.specs.WorthTold.{PlainWorthRow}

-- the line of an account: its market, its address, and its worth in base and in quote
abbrev pub trader_line : PlainWorthRow → List ℕ
trader_line row =
    codes "trader" ++ spaced (address_text row.market) ++ spaced (address_text row.account) ++ spaced (signed_decimal row.worth.coin)
    ++ spaced (signed_decimal row.worth.pc) ++ 10 ∷ []

-- the text of these lines: how many markets there are, a line for each account, and the end
abbrev pub with_lines : ℕ → List ℕ → List ℕ
with_lines markets text = (codes "worth" ++ spaced (decimal markets) ++ 10 ∷ []) ++ text ++ codes "end" ++ 10 ∷ []

-- the text of a table
abbrev pub worth_text : ℕ → List PlainWorthRow → List ℕ
worth_text markets rows = with_lines markets (flat_map trader_line rows)
