-- Some of the sentences.
pub mod Parts
