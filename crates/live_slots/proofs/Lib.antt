-- The laws of records left out, of so many that are read, and of what the number of them tells.
pub mod Clear
pub mod Passed
pub mod LeftOut
pub mod Among
pub mod Told
