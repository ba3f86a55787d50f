pub mod Telling
pub mod Learning
pub mod Serving
