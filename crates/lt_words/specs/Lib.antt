pub mod Numbers
pub mod Local
pub mod Commands
pub mod Reading
pub mod Lttac
pub mod Ranges
pub mod Told
