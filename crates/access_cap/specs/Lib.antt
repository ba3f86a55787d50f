pub mod Kinds
pub use Rattle.lwc_base.specs.Capabilities
pub use Rattle.lwc_base.specs.Modes
