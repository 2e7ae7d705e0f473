-- What a question is answered.
pub mod Answer
