pub mod StampedCalls
pub mod Lanes
pub mod Journals
pub mod Items
pub mod Inside
