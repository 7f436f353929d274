mod Passes
mod Loaded
mod Ring
mod Times
mod Never
