-- Laws of the bytes that go into a boundary call's answer.
pub mod Rooms
