-- Which version this is.
pub mod Version
