-- The laws that the answers cite: below which prices 64 bits are enough.
pub mod Fits
