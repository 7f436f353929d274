pub mod Growing
pub mod Typing
