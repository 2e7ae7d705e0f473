-- Laws on the bytes that say a number and on writing them, which code proofs and the crates above cite.
pub mod Bytes
pub mod Stored
pub mod Limbs
