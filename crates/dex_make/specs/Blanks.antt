-- Blank open-orders accounts.
use Rattle.std.specs.Prelude.{List, map}
use Rattle.dex_types.specs.declared.addresses.Address.{Address}
use Rattle.dex_types.specs.Accounts.{PlainAccount, PlainMarketAccounts}
use Rattle.dex_make.specs.MarketBytes.{blank_orders}

-- a blank open-orders account at an address
abbrev pub blank_account : Address → PlainAccount
blank_account address = record { address = address; bytes = blank_orders }

-- a market's accounts with blank open-orders accounts at these addresses, and no others
abbrev pub with_blanks : List Address → PlainMarketAccounts → PlainMarketAccounts
with_blanks addresses accounts = record accounts { orders = map blank_account addresses }
