-- What the exported functions tell in printed texts: what each refuses, and what it writes.
pub mod Texts
