pub mod Filled
pub mod Safe
