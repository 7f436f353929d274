pub mod Left
pub mod Header
pub mod TextLemmas
pub mod RowSteps
pub mod TableSteps
pub mod TableFacts
