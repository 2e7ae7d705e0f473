-- What the exported functions that take a form apart leave.
pub mod Parts
