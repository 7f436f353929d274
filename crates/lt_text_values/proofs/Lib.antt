pub mod Missing
pub mod OutputLines
