mod SlotLaws
mod EventLaws
mod FundLaws
mod TraderFrom
mod MarketForm
mod SoundLaw
mod NoneLaw
mod SupplyLaws
pub mod OnceLaws
mod SmallLaws
mod AllLaws
mod FoundLaws
mod FoundFunds
mod ExactLaw
