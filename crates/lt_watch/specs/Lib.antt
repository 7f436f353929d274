pub mod Judged
pub mod Whole
pub mod Blamed
pub mod Watch
pub mod Errands
pub mod OnFiles
