pub mod Spaced
