-- Laws on what an edit leaves.
pub mod Epochs
pub mod Leaving
