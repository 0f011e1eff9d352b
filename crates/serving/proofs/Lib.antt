-- Laws of a part of a script, then that the parts of a script are its transcript.
pub mod Serving
pub mod Onward
pub mod Hosting
pub mod HostMeaning
pub mod TranscriptLine
pub mod TranscriptLines
pub mod TranscriptParts
pub mod TranscriptProof
pub mod TranscriptHost
pub mod Uses
