pub mod CopyLaws
pub mod FindingLaws
pub mod TooSmallLaws
pub mod MarketLaws
pub mod KeptLaws
