-- The laws of a bank as a batch has read it, which `batch` cites.
pub mod Readings
