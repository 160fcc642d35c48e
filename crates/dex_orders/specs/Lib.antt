pub mod Bits
pub mod OrdersAccount
pub mod Faults
pub mod StandsFor
