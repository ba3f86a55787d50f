pub mod Folding
pub mod PageLists
pub mod Histories
pub mod Workers
pub mod Courses
pub mod KeptPages
pub mod Onward
pub mod Sittings
