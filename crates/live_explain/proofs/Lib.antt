-- Laws of the live call's answer.
pub mod Answers
