-- Laws of K and S.
pub mod Verdicts
pub mod Retaining
pub mod Lining
pub mod Bare
pub mod Acting
pub mod Walking
pub mod Trimming
pub mod Closing
pub mod Sealing
