pub mod Plays
pub mod Keeping
pub mod Blamed
pub mod Played
pub mod Sound
pub mod Run
pub mod Replays
pub mod Playing
