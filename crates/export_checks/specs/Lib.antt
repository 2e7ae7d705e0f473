-- What opens an exported function: the faults of what is lent, a refusal as one word, and an answer handed over.
pub mod Checks
