-- Laws of texts that are handed over, which callers cite.
pub mod Answers
pub mod Prefixes
