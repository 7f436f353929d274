pub mod Heading
pub mod Red
pub mod Legend
pub mod PictureText
