pub mod Examined
pub mod Causality
pub mod Front
pub mod Steps
pub mod Limits
pub mod Flattened
pub mod Checked
pub mod Printed
