-- The calls on pages: what their parts ask and leave.
pub mod Kind
pub mod Target
pub mod Kill
pub mod EraseVerdict
pub mod Place
pub mod WriteVerdict
