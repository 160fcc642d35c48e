pub mod FirstReasons
pub mod WalletAmounts
