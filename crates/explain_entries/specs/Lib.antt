-- What document 01 tells of a scan's verdict, and of an entry's numbers.
pub mod Scanned
pub mod Entry
