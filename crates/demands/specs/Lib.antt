-- What the theorems speak of beside the rules: the Rust's arithmetic, the widths of its fields, its fast and slow paths, its way to the
-- first two of the ranking, exact boundaries, the two costs that a policy can name, document 01's latency term, places renamed, and rows of edits.
pub mod Machine
pub mod Widths
pub mod Paths
pub mod Lists
pub mod Ranked
pub mod Keeping
pub mod Exact
pub mod Standing
pub mod Rounding
pub mod Allowance
pub mod Demand3
pub mod Renamed
pub mod Edited
pub mod AsBefore
