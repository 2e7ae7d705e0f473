-- Laws of the sentences.
pub mod Joins
