-- A bank as a batch has read it.
pub mod Read
