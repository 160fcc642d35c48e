mod Examples
mod SameBytes
mod Lanes
