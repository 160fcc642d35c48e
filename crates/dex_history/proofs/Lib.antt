mod JournalExamples
pub mod HistoryLaws
pub mod WalletLaws
pub mod RefusalLaws
pub mod HeldLaws
pub mod PriceLaws
pub mod BalanceLaws
pub mod MoveLaws
pub mod StepMoves
pub mod AddressOrder
pub mod MintLaws
pub mod StepMints
pub mod StepConserves
pub mod CrossLaws
