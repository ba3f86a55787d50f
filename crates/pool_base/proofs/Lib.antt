pub mod PaddedLemmas
pub mod PairedLemmas
pub mod StackLemmas
pub mod Totals
