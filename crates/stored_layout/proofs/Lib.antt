-- Laws of fields that pass and of forms made of them, which callers cite.
pub mod Buffers
pub mod Passing
pub mod Due
pub mod Forms
pub mod Before
pub mod Lengths
pub mod Openings
