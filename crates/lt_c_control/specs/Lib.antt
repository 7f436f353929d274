pub mod Control
pub mod Steps
pub mod Inboxes
pub mod Lossy
