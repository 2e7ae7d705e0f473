-- What the exported functions that check a catalogue leave.
pub mod Catalogue
