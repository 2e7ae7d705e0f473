-- Laws on what each call leaves, that the proofs of these functions cite.
pub mod Answering
