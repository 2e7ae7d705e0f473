-- What a policy's bytes tell, and that a call has one permitted answer.
pub mod Policies
pub mod Answers
