-- That any two permitted answers are equal, and rows on what a policy's bytes are refused by, on a bank whose models are swapped, and on batches.
pub mod Answers
mod LentRows
mod LiveRows
mod BatchRows
