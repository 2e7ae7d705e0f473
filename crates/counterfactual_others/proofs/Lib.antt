-- What a decision selects and costs by the best, and by the best of the others.
pub mod Selecting
pub mod Apart
pub mod Offers
