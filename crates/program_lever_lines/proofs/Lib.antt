-- Laws of the lines, which callers cite.
pub mod Joins
