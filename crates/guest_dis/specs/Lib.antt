pub use Rattle.guest_image.specs.Limits
pub use Rattle.guest_asm.specs.Drafts
pub mod Listing
