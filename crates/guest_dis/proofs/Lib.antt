pub mod Bytes
pub mod Numerals
pub mod Operations
pub mod Trims
pub mod Texts
pub mod Rounds
pub mod Images
