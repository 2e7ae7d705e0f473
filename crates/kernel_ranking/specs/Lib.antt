-- What a scan holds, the reason of the largest count, and what a record's verdict does to what is held.
pub mod State
pub mod Reason
pub mod After
