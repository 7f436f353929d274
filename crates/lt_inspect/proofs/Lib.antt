mod Exactness
mod Grounded
mod Staging
mod Plain
mod Outcome
mod Carried
pub mod ToldFirst
mod Noting
mod Told
mod Finished
pub mod Elsewhere
pub mod OneScene
