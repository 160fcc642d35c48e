pub mod Given
pub mod Owing
pub mod Plans
