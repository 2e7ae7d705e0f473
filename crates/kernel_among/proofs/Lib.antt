-- The laws of a decision over so many records, of the best two that it was made from, and of so many as are live.
pub mod Tops
pub mod Fewer
pub mod Lives
