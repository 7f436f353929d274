pub mod Big
pub mod Stage
