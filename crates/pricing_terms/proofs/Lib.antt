-- The laws that the answers cite, and those that users of the crate cite: `terms-rule` and the scores'.
pub mod Scores
pub mod Ruled
