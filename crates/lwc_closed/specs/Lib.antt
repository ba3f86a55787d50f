pub use Rattle.kernel_core.specs.Start
pub mod Bytes
pub mod Requests
