-- Laws on faults, words and buffers that the proofs of the exported functions cite.
pub mod Tests
pub mod Handed
pub mod Words
