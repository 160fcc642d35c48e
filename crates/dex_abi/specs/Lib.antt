pub mod Numbers
pub mod Texts
pub mod Lent
pub mod Flaws
pub mod Checked
