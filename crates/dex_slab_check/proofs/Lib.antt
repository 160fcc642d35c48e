pub mod FreeLaws
pub mod OnceLaws
pub mod PrefixLaws
pub mod RootLaws
pub mod SoundLaws
pub mod TreeLaws
pub mod WellFormedLaws
