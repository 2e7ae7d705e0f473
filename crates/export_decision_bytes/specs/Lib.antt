-- Where the numbers of a decision stand.
pub mod Layout
