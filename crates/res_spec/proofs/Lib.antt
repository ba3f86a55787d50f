pub mod SpelledItems
pub mod Spellings
pub mod ValidItems
pub mod ReadItems
