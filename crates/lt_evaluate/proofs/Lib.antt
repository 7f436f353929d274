pub mod Streams
pub mod Longer
pub mod Contents
pub mod Showing
pub mod OneMeaning
pub mod Stepped
