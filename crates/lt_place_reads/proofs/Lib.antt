pub mod Decls
pub mod Lefts
mod Pushed
mod Looked
pub mod Crossed
