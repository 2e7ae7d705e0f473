-- The laws of room for levers, of four levers noted in it, and of an answer by its parts, which callers cite.
pub mod Rooms
pub mod Notes
