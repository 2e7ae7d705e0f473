-- Laws of the programs' input, which callers cite.
pub mod Tests
pub mod Before
