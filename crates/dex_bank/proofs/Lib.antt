pub mod Common
pub mod OpenCells
mod OpenLists
mod OpenRooms
pub mod Stands
pub mod StepMarkets
pub mod StepCells
pub mod StepWorld
pub mod StepTwo
pub mod StepBoth
