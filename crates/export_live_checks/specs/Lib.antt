-- What opens an exported function that runs over live records, or edits them.
pub mod LiveChecks
