-- Laws on records and banks that code proofs and the crates above cite.
pub mod Refusals
pub mod Answers
pub mod Listing
