pub mod Within
pub mod Times
