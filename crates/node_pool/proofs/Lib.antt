pub mod PoolLemmas
