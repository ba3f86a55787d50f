pub mod BitLemmas
pub mod NamedLemmas
pub mod ChangeLemmas
pub mod FillingLemmas
pub mod ChunkLemmas
pub mod ObjectLemmas
pub mod PoolLemmas
pub mod SlotLemmas
