pub use Rattle.kernel_core.specs.Step
pub mod Blanks
