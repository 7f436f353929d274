mod Records
mod InputRows
mod SetupTable
mod SetupRead
mod Bounds
