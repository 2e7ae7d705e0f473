-- What the exported functions that bound a decision over live records leave.
pub mod LiveBounds
