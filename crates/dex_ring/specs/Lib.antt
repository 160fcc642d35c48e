pub mod EventBytes
pub mod Ring
pub mod Faults
pub mod StandsFor
pub mod Blank
pub mod Appended
pub mod PendingFills
