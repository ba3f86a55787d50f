pub mod Alike
pub mod Held
pub mod NameSlots
pub mod Rows
pub mod Taken
