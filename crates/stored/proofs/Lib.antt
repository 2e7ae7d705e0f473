-- The laws of the two forms, and of the calls.
pub mod Writing
pub mod Reading
pub mod Answers
pub mod Trips
pub mod Optional
pub mod FormTrips
pub mod RoundTrips
pub mod Before
