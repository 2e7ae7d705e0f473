-- Laws on a text and its length that the proofs of these functions cite.
pub mod Headings
