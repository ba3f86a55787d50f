pub mod Pasts
pub mod Places
pub mod Seats
pub mod EachStep
pub mod Turns
pub mod Passing
pub mod Ends
