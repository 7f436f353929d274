pub mod World
pub mod Answered
pub mod Rules
pub mod Alone
