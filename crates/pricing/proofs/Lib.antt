-- The laws that the answers cite, and those that users of the crate cite: `settled`, and how large terms are.
pub mod Values
pub mod Settled
