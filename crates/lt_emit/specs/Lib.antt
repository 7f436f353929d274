pub mod Loading
pub mod Emitted
