pub use Rattle.kernel_core.specs.Start
pub mod Secrets
pub mod Blanks
pub mod Slots
pub mod Told
