mod Listed
mod Found
mod Turns
mod Inputs
mod Verdicts
pub mod First
mod Numbering
mod Vars
mod Lists
mod Assigned
mod Seated
mod Marked
mod Inside
mod Judging
mod Refused
mod Crosses
mod Steps
mod Outs
mod Sizes
pub mod Compilable
mod Parts
mod Splitting
mod Laid
