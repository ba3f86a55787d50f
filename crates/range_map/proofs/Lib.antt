pub mod Ranges
pub mod Alike
pub mod Built
pub mod Appended
pub mod Edges
pub mod Halved
pub mod Walks
