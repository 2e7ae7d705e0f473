-- Laws of the sentences' pieces, and of which sentence a refusal has.
pub mod Joins
