-- That each call has one permitted answer.
pub mod Answers
