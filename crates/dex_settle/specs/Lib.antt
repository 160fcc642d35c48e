pub mod SettleGiven
pub mod Refusing
pub mod PayingOut
