pub mod Allowed
pub mod StillLive
pub mod Table
