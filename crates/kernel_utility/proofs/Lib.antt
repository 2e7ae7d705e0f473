-- The laws of a single record's utility.
pub mod Singles
