-- Rows of a table of worth.
use Rattle.std.specs.Prelude.{ℕ, pos, ◌+ℤ◌, ◌-ℤ◌, List}
use Rattle.dex_types.specs.declared.addresses.Address.{Address}
use Rattle.dex_eager.specs.Worth.{Worth}
use Rattle.dex_replay.specs.WorthText.{trader_line}
use Rattle.dex_replay.specs.WorthTold.{PlainWorthRow}
use Rattle.dex_worth.specs.declared.amounts.TokenAmounts.{TokenAmounts}
use Rattle.dex_worth.specs.declared.table.Worth as declared
use Rattle.dex_worth.specs.declared.table.WorthRow.{WorthRow}

-- a worth, as it is told
abbrev pub plain_worth : declared.Worth → Worth
plain_worth worth = record { coin = worth.coin; pc = worth.pc }

-- a row, as it is told
abbrev pub plain_row : WorthRow → PlainWorthRow
plain_row row = record { market = row.market; account = row.account; worth = plain_worth row.worth }

-- its line in the text of a table
abbrev pub line_of : WorthRow → List ℕ
line_of row = trader_line (plain_row row)

-- what is held, less what was deposited, plus what was settled
abbrev pub worth_by : TokenAmounts → TokenAmounts → TokenAmounts → Worth
worth_by held deposited settled = record {
  coin = (pos held.coin -ℤ pos deposited.coin) +ℤ pos settled.coin;
  pc = (pos held.pc -ℤ pos deposited.pc) +ℤ pos settled.pc;
}

-- the row of an account with these amounts
abbrev pub row_by : Address → (Address → TokenAmounts) → (Address → TokenAmounts) → (Address → TokenAmounts) → Address → PlainWorthRow
row_by market held deposited settled owner =
    record { market = market; account = owner; worth = worth_by (held owner) (deposited owner) (settled owner) }
