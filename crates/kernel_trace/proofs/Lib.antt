-- The law of a decision with its trace.
pub mod Traces
