pub mod Slots
pub mod FirstOwn
pub mod Given
pub mod Cancels
