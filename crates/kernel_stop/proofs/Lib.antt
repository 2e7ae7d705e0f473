-- The laws of stops, which callers cite.
pub mod Stops
