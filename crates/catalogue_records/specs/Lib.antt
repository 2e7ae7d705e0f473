-- The ids of a bank.
pub mod Ids
