pub mod Numbered
pub mod MadeTexts
pub mod Words
pub mod Values
pub mod Replies
pub mod ReadBack
pub mod Entries
pub mod Journals
pub mod Written
pub mod Fronts
mod GrowLaws
mod Whole
mod Joined
mod Listed
