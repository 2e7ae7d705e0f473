-- The laws of the order, of the ranking's first two, of what a scan holds, wherever a record stands, and of its verdicts, which callers cite.
pub mod Orders
pub mod Ranking
pub mod Steps
pub mod States
pub mod Moved
pub mod Verdicts
