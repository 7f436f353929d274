pub mod Reads
pub mod Blamed
pub mod Ends
