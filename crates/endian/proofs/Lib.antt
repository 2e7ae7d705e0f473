-- Laws on the numbers that bytes say, which code proofs and the crates above cite.
pub mod Numbers
pub mod Spelled
