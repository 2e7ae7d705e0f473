-- Fields that code may pack.
pub mod Tight
