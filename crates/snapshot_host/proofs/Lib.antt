pub mod Copies
pub mod CopyRanges
