-- The other records of a list, what they offer, and what wins against their best.
pub mod Others
