-- A script served for the benchmarks.
pub mod Measuring
