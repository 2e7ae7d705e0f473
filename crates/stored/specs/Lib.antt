-- What writing refuses.
pub mod Writing
