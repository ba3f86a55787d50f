mod Changed
mod Edges
mod Filled
mod FrameLemmas
pub mod FreeLemmas
pub mod KindChanges
pub mod Lists
pub mod OwnPages
mod OwnTags
mod PartLemmas
pub mod PieceLemmas
pub mod Places
mod RisingRuns
mod RowViews
mod Stretches
pub mod TagLemmas
pub mod Taken
pub mod Trees
pub mod UsedLemmas
pub mod Views
pub mod WorldTags
pub mod WriteLemmas
mod Written
