-- Which slots have an entry, and how many bytes entries need.
pub mod Entries
