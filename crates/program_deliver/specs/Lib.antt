-- The sizes of buffers that always suffice, and where a text ends.
pub mod Sizes
pub mod Ends
