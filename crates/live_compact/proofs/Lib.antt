-- The laws of a bank while its gaps are being closed, and of the compaction's answers.
pub mod Gaps
pub mod Answers
