-- What the arguments ask.
pub mod DeskQuestion
