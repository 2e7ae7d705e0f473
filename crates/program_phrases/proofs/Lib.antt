-- The law of a share's pieces.
pub mod Joins
