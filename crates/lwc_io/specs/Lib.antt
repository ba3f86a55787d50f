pub mod Coding
pub mod Memory
pub mod Outside
pub mod Real
pub mod Sure
