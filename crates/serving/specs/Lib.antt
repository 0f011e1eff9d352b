-- A script served in parts, and that the parts are its transcript.
pub mod Part
pub mod Host
pub mod HostMeans
pub mod Transcribed
