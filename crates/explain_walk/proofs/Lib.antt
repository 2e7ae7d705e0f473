-- Laws of the walk over an explanation.
pub mod Walk
pub mod Answers
