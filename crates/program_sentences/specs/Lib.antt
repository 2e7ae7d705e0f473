-- Parts of the sentences.
pub mod Parts
