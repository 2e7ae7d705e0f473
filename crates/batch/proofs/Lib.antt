-- Laws on the tests of a batch and on the row that it fills, and that its answers are determined.
pub mod Filling
pub mod Testing
pub mod Batches
pub mod Alike
pub mod Answers
