pub mod Plain
pub mod Lift
pub mod Flat
pub mod NormalForm
pub mod Walk
