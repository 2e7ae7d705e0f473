-- What a function that writes at a position of a buffer promises.
pub mod Placed
