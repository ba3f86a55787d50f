pub mod Faults
pub mod Names
pub mod Outcomes
pub mod Pages
pub mod Registers
