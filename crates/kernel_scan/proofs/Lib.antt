-- The laws of the records of a part, of one turn of a scan, and of a record in the stead of another, which callers cite.
pub mod Places
pub mod Scanning
pub mod Standing
