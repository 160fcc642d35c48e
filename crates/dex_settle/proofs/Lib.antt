pub mod ModelLaws
pub mod PayLaws
pub mod TraderLaws
pub mod WalletLaws
