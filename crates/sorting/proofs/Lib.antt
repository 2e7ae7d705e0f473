-- The laws of the place of insertion, and of a bank while it is being ordered.
pub mod Places
pub mod Turns
