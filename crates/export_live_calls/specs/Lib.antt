-- What the exported functions that decide and explain over live records leave.
pub mod LiveCalls
