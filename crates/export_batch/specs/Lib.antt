-- What the exported batches leave.
pub mod Batches
