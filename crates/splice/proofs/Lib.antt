-- Laws on pieces written one after the other, which callers cite.
pub mod Pieces
