pub mod Sites
pub mod Ready
pub mod Chain
