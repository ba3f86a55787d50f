pub mod Frame
pub mod PoolLending
pub mod View
