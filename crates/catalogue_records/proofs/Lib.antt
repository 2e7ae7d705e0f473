-- The laws of the tests record by record, which callers cite.
pub mod Walks
pub mod Rising
