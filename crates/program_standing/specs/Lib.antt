-- Parts of the sentence.
pub mod Parts
