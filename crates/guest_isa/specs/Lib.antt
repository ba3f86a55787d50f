pub mod Opcodes
pub mod Instructions
pub mod Spelling
