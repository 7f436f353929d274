pub mod NodeText
pub mod Names
pub mod NodeOf
