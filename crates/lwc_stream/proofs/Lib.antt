mod Lists
pub mod Recorded
mod QueueSteps
mod Sent
mod Serving
mod Shown
mod Turns
pub mod Written
