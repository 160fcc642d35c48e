pub mod Records
pub mod RowReader
pub mod Lines
pub mod Rows
pub mod Numbers
pub mod Addresses
pub mod Base64
pub mod Printable
