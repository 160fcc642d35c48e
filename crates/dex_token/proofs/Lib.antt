pub mod AmountWrites
pub mod TokenRules
