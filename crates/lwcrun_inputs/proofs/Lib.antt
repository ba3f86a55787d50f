pub mod Fetches
pub mod Follows
mod Pieces
pub mod Readers
