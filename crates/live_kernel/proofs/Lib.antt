-- That the answers of the live calls are determined, and the laws of a live model's utility.
pub mod Answers
pub mod Utilities
