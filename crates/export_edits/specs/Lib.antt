-- What the exported functions that edit a bank leave.
pub mod Epoch
pub mod Edits
