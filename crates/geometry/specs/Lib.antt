-- The geometry of a store.
pub mod Limits
pub mod Making
