pub mod Window
pub mod Words
pub mod Picture
pub mod Plotted
pub mod Stage
pub mod Laws
