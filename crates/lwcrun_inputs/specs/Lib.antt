pub use Rattle.lwc_io.specs.Outside
pub mod Ends
pub mod Inputs
pub mod Parts
pub mod Plans
pub mod Reading
pub mod Statuses
pub mod Views
