-- What a call permits.
pub mod Answers
