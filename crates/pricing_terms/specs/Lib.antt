-- Scores, and the terms that carry one: what the code has in place of the rules' integers.
pub mod Score
pub mod Terms
