pub mod Losses
pub mod Scheduled
pub mod Stage
pub mod Laws
