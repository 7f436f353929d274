pub mod Main
pub mod Fits
pub mod Rows
