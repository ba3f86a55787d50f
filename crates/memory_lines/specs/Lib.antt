pub mod Border
pub mod Lines
