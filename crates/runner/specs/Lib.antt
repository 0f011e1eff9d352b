-- The runner's loop, without its reads and writes.
pub mod Turn
pub mod Printed
