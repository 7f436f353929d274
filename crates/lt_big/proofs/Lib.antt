pub mod Contents
pub mod Alone
pub mod Along
pub mod Plainly
pub mod Held
pub mod Drawn
pub mod Short
pub mod Undrawn
