-- The records of a part of a bank, and room for a scan of them.
pub mod Places
pub mod Scan
