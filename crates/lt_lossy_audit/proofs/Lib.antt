pub mod LetterList
pub mod SentSeen
pub mod NodeSeen
pub mod NextLossy
pub mod StartedSeen
pub mod SpaceSeen
pub mod LossyOn
