-- Laws of numbers and lines as text, which callers cite.
pub mod Digits
pub mod Words
