pub mod Origins
pub mod Reads
pub mod Crossings
