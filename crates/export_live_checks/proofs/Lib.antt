-- Laws on what opens an exported function that runs over live records.
pub mod Openings
