pub mod EdgeLemmas
pub mod ModeLemmas
