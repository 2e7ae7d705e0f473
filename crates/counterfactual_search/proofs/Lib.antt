-- The laws of what a search and its halving come to, which callers cite.
pub mod Searches
pub mod Halves
