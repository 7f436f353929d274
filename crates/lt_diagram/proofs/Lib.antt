pub mod Pieces
pub mod Shares
pub mod Fitting
pub mod Going
