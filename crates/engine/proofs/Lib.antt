-- Laws of the engine.
pub mod Untouched
pub mod Looking
