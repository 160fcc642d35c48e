-- Setup rows, and the rows that choose the program and set the clock.
use Rattle.std.specs.Prelude.{ℕ, ◌^◌, not, ◌==◌, if◌then◌else◌, List, length, bytes_eq, codes, slice_index, Option, Some, None, Result, Ok}
use Rattle.dex_types.specs.declared.addresses.Address.{Address}
use Rattle.dex_types.specs.declared.terms.Program as program
use Rattle.dex_types.specs.declared.terms.Program.TheVariants.{Serum, OpenBook}
use Rattle.dex_rows.specs.Addresses.{address_of}
use Rattle.dex_rows.specs.Base64.{base64_of}
use Rattle.dex_rows.specs.Numbers.{number_of}
use Rattle.dex_statement.specs.declared.faults.FaultKind.{FaultKind}
use Rattle.dex_statement.specs.declared.faults.FaultKind.TheVariants.{UnknownRow, FieldCount, BadNumber, BadLabel}
use Rattle.dex_statement.specs.declared.statement.Statement.{Statement}
use Rattle.dex_statement.specs.declared.statement.Statement.TheVariants.{Program, Clock, Mint, Wallet, Orders}
use Rattle.dex_statement.specs.Faults.{◌>>=◌, found_or, unless}
use Rattle.dex_statement.specs.Stated.{PlainMarketWords}
use Rattle.dex_statement.specs.Words.{Fields, field_at, time_word}

-- `serum` or `openbook`
abbrev pub program_word : List ℕ → Option program.Program
program_word word = if bytes_eq word (codes "serum") then Some Serum else (if bytes_eq word (codes "openbook") then Some OpenBook else None)

-- `program,PROGRAM`
unfoldable pub program_of : Fields → Result Statement FaultKind
program_of row = unless (not (length row == 2)) FieldCount (do
  named ← found_or (program_word (field_at row 1)) UnknownRow
  Ok (Program named))

-- `clock,NOW`
unfoldable pub clock_of : Fields → Result Statement FaultKind
clock_of row = unless (not (length row == 2)) FieldCount (do
  now ← found_or (time_word (field_at row 1)) BadNumber
  Ok (Clock now))

-- `mint,ADDRESS,DECIMALS`
unfoldable pub mint_of : Fields → Result Statement FaultKind
mint_of row = unless (not (length row == 3)) FieldCount (do
  decimals ← found_or (number_of (2 ^ 8) (field_at row 2)) BadNumber
  address ← found_or (address_of (field_at row 1)) BadLabel
  Ok (Mint address decimals))

-- `srm,MINT` or `msrm,MINT`: the mint
unfoldable pub discount_of : Fields → Result Address FaultKind
discount_of row = unless (not (length row == 2)) FieldCount (found_or (address_of (field_at row 1)) BadLabel)

-- `wallet,ADDRESS,MINT,OWNER,AMOUNT`
unfoldable pub wallet_of : Fields → Result Statement FaultKind
wallet_of row = unless (not (length row == 5)) FieldCount (do
  amount ← found_or (number_of (2 ^ 64) (field_at row 4)) BadNumber
  address ← found_or (address_of (field_at row 1)) BadLabel
  mint ← found_or (address_of (field_at row 2)) BadLabel
  owner ← found_or (address_of (field_at row 3)) BadLabel
  Ok (Wallet address mint owner amount))

-- `orders,MARKET,ADDRESS`
unfoldable pub orders_of : Fields → Result Statement FaultKind
orders_of row = unless (not (length row == 3)) FieldCount (do
  market ← found_or (address_of (field_at row 1)) BadLabel
  address ← found_or (address_of (field_at row 2)) BadLabel
  Ok (Orders market address))

-- an address whose last byte is 0
abbrev pub with_last_zero : Option Address → Option Address
with_last_zero None = None
with_last_zero (Some address) = if slice_index address.0 31 == 0 then Some address else None

-- the address of a market that a word is: its last byte is 0
unfoldable pub market_word : List ℕ → Option Address
market_word word = with_last_zero (address_of word)

-- `market,ADDRESS,COIN,PC,AUTHORITY,BIDNODES,ASKNODES,EVENTS,DATA`
unfoldable pub market_of : Fields → Result PlainMarketWords FaultKind
market_of row = unless (not (length row == 9)) FieldCount (do
  bid_nodes ← found_or (number_of (2 ^ 32) (field_at row 5)) BadNumber
  ask_nodes ← found_or (number_of (2 ^ 32) (field_at row 6)) BadNumber
  events ← found_or (number_of (2 ^ 32) (field_at row 7)) BadNumber
  bytes ← found_or (base64_of (field_at row 8)) BadNumber
  address ← found_or (market_word (field_at row 1)) BadLabel
  coin ← found_or (address_of (field_at row 2)) BadLabel
  pc ← found_or (address_of (field_at row 3)) BadLabel
  authority ← found_or (address_of (field_at row 4)) BadLabel
  Ok (record { address = address; coin = coin; pc = pc; authority = authority; bid_nodes = bid_nodes; ask_nodes = ask_nodes; events = events; bytes = bytes }))
