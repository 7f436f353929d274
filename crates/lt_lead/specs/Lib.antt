pub mod Chosen
pub mod Controllers
pub mod Shapes
pub mod Bounds
pub mod Laws
pub mod Channels
pub mod Paced
