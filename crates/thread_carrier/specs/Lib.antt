pub use Rattle.process_core.specs.Running
pub use Rattle.kernel_core.specs.Histories
pub use Rattle.kernel_core.specs.Machine
pub mod Turned
