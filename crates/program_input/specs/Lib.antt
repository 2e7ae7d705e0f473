-- What refuses an input before validation.
pub mod Formed
