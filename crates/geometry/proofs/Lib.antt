-- Laws of the geometry.
pub mod Made
pub mod Example
pub mod Edges
