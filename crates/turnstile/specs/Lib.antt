pub mod Past
pub mod Rule
pub mod Steps
pub mod Moves
pub mod Passes
pub use mathlib.Core.List
