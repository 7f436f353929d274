mod Ends
pub mod Sent
pub mod Transit
pub mod Stopping
pub mod Strokes
pub mod Missing
pub mod Placing
pub mod Recorded
pub mod Over
pub mod Outcomes
pub mod Alike
pub mod OneCourse
pub mod Agreeing
