-- Laws of the exported batches: a row of requests and of decisions in bytes, and what refuses one.
pub mod Rows
pub mod Refusals
