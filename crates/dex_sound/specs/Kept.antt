-- What a step keeps of a market, whatever the row.
use Rattle.std.specs.Prelude.{◌+◌, ◌-◌, ◌≡◌, List, map}
use Rattle.dex_types.specs.declared.addresses.Address.{Address}
use Rattle.dex_types.specs.Market.{Market}
use Rattle.dex_types.specs.Trader.{Trader, Traders}
use Rattle.dex_types.specs.Steps.{Step}

-- the traders' addresses, in declared order
abbrev pub addresses : Traders → List Address
addresses traders = map (λ (entry : Address × Trader). entry.0) traders

-- a step moves its vaults by its transfers alone, and keeps the listing and the accounts' addresses in their order
pub record KeepsMarket (m : Market) (s : Step) : Type 0 where
  pub coin : s.market.coin_vault ≡ m.coin_vault + s.transfers.coin_in - s.transfers.coin_out
  pub pc : s.market.pc_vault ≡ m.pc_vault + s.transfers.pc_in - s.transfers.pc_out - s.transfers.referrer_out
  pub listing : s.market.listing ≡ m.listing
  pub accounts : addresses s.market.traders ≡ addresses m.traders
