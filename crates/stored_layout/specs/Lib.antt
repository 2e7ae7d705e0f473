-- What the reader of forms tells, and what it asks.
pub mod Layout
