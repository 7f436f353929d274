mod Sums
mod Turns
mod Few
