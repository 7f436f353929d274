pub mod RowsRead
pub mod Onward
