-- A part of a line.
pub mod Pieces
