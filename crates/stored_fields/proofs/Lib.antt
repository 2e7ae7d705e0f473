-- Laws of one field.
pub mod Lengths
pub mod Bodies
pub mod OneField
