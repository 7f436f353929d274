pub mod Main
pub mod Meaning
pub mod Columns
pub mod Errands
