-- Laws of the answers in words, which callers cite.
pub mod Listings
pub mod Sayings
pub mod Answers
pub mod Prefixes
