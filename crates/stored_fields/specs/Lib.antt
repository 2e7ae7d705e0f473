-- What the field reader tells.
pub mod Fields
