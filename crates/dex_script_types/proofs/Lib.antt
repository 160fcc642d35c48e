pub mod Apart
pub mod FoundLaws
pub mod ItemCounts
pub mod PlacedLaws
pub mod Roles
