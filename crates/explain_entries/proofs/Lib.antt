-- What a record is told is what the scan used, for one record and for the list of all entries.
pub mod Ways
pub mod Verdicts
