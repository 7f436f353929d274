pub mod Status
pub mod Lines
pub mod Draws
pub mod Texts
pub mod Blamed
pub mod Replies
