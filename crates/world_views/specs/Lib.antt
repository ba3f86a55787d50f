pub mod Blank
pub mod BlankFacts
pub mod ByJob
pub mod Ends
pub mod JobFacts
pub mod JobFrames
pub mod Outside
pub mod Views
