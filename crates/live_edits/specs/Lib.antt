-- The slot that an edit writes.
pub mod Placing
