-- The laws of the slot that an edit writes, of the bytes written there, and of its answers.
pub mod Chosen
pub mod SlotSet
pub mod Answers
