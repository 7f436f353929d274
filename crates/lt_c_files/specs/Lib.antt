pub mod FileNodes
pub mod Bodies
pub mod FileRuns
pub mod DeclaredTypes
