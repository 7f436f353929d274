pub mod Program
pub mod Setup
