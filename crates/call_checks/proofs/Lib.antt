-- The laws of the first listed record, which callers cite.
pub mod Finding
