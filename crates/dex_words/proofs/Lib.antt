pub mod CommandLaws
mod Line
mod Placing
