-- What is asked.
pub mod Asked
