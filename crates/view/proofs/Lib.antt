-- What a view decides, and that its answers are determined.
pub mod Standing
pub mod Answers
