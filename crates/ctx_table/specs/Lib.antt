pub mod Contexts
pub mod Hints
pub mod Lends
pub mod NameTables
pub mod Places
pub mod Slots
