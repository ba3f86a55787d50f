pub use Rattle.lwc_io.specs.Outside
pub mod Beside
pub mod Calls
pub mod Headlines
pub mod InMemory
pub mod Serving
pub mod StreamEnds
pub mod Works
