pub mod Bits
pub mod Covered
pub mod Keys
pub mod Lent
