pub mod Arguments
pub mod Lines
pub mod Modes
pub mod Numbers
