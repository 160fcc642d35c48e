pub mod Applying
pub mod Deciding
pub mod LentParts
pub mod OrderParts
pub mod OrderTerms
pub mod Ordering
pub mod Planned
