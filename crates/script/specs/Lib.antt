-- Scripts: the lines of a text, what a line says, how numbers and calls are spelled, and the text of a reply.
pub mod Decimal
pub mod Lines
pub mod Letters
pub mod Parse
pub mod Said
pub mod Spoken
pub mod Grammar
pub mod ReplyText
