pub mod Coded
pub mod Emission
pub mod Numbered
pub mod OneEmit
