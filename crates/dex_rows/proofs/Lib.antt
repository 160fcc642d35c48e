pub mod SplitLemmas
mod LineLemmas
mod PlainLaws
pub mod NumberLemmas
pub mod RecordLemmas
mod AddressLemmas
pub mod PrintableLemmas
pub mod OnLiterals
pub mod NumberLaws
pub mod RowLaws
pub mod AddressLaws
mod Examples
mod CutLaws
