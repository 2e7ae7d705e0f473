-- Laws of the bytes that go into a decision.
pub mod Bytes
