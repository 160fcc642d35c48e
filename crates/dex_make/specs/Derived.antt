-- The addresses of what belongs to a market.
use Rattle.std.specs.Prelude.{ℕ, slice_set}
use Rattle.dex_types.specs.declared.addresses.Address.{Address}
use Rattle.dex_make.specs.declared.parts.MarketPart.{MarketPart}
use Rattle.dex_make.specs.declared.parts.MarketPart.TheVariants.{CoinVault, PcVault, RequestQueue, EventQueue, Bids, Asks, VaultOwner}

-- the last byte of a part's address
abbrev pub number_of : MarketPart → ℕ
number_of CoinVault = 1
number_of PcVault = 2
number_of RequestQueue = 3
number_of EventQueue = 4
number_of Bids = 5
number_of Asks = 6
number_of VaultOwner = 7

-- the address of a part: the market's, but for its last byte
abbrev pub derived : Address → MarketPart → Address
derived market part = record { 0 = slice_set market.0 31 (number_of part) }
