-- The place of a record among others, and what moves inside a bank.
pub mod Bytes
