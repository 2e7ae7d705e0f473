-- Laws of the unit's report, which callers cite.
pub mod Reports
pub mod Answers
pub mod Prefixes
