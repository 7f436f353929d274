pub mod Fault
pub mod Kinds
pub mod Printed
pub mod Coded
pub mod Run
pub mod Errands
pub mod Drawn
