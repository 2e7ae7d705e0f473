-- Laws on layouts and on what is packed that code proofs and the crates above cite.
pub mod Layouts
pub mod Packing
pub mod Trips
pub mod Answers
