pub mod TokenAccount
pub mod MintAccount
pub mod Faults
pub mod StandsFor
