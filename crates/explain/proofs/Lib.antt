-- Laws of the explanation: which records it reads, where its entries stand, and what refuses it.
pub mod Read
pub mod Entries
pub mod Stopped
pub mod Readings
pub mod Answers
