-- The laws of the answer, which the code's proofs cite.
pub mod Wins
pub mod Answers
