-- What a record is told within a scan.
pub mod Verdict
