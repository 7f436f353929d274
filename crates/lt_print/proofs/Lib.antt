pub mod Written
pub mod Lexed
pub mod Texts
pub mod Goods
pub mod Canon
pub mod Spelled
pub mod Printing
