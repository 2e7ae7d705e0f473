-- Documents 01 and 02 as definitions, in the order of their sections; sizes, limits, choices by a test and lists in order come first. A reader has only
-- these to believe.
pub mod Limits
pub mod Choice
pub mod Order
-- bytes
pub mod Bytes
pub mod Wide
pub mod Records
pub mod Stored
pub mod Runs
pub mod Steps
-- numbers handed back
pub mod Refused
pub mod Numbers
pub mod Listing
pub mod Validate
pub mod Trust
-- deciding
pub mod Gates
pub mod Price
pub mod Utility
pub mod Verdict
pub mod Rank
pub mod Count
pub mod Decide
pub mod Explain
pub mod Batch
-- boundaries
pub mod Halving
pub mod Levers
pub mod View
pub mod Win
pub mod Margin
-- a bank whose models are swapped, of document 02
pub mod Slots
pub mod Edits
pub mod Live
-- what the programs print
pub mod Text
pub mod Printed
-- and in words, to the desk
pub mod Phrases
pub mod NotChosen
pub mod FaultWords
pub mod Words
