-- Laws on two's complement that code proofs and the crates above cite.
pub mod Signs
