-- How many of a bank's records are read.
pub mod Among
