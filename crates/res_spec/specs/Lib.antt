pub use Rattle.byteorder.specs.Endian
pub use Rattle.lwc_base.specs.Modes
pub use Rattle.lwc_base.specs.Refusals
pub mod Items
pub mod Spelling
