pub mod Effects
pub mod Advances
