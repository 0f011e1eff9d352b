-- The log tool's arguments.
pub mod Spelled
