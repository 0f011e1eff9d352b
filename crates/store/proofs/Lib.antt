-- Laws of the entry points.
pub mod Filling
pub mod Making
pub mod Admitted
pub mod Results
pub mod Lengths
