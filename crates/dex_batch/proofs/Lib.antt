mod PartLaws
mod RoomLaws
mod ActLaws
mod GroupLaws
mod ShareLaws
mod DealLaws
pub mod Openings
