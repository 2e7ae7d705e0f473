-- Laws of the question in lines, which callers cite.
pub mod Asks
pub mod Answers
pub mod Prefixes
