pub mod Translate
pub mod Laws
pub mod Part
pub mod Written
pub mod Typed
