-- Laws of the sentences.
pub mod Choices
pub mod Reasons
