-- Pricings: what a policy and a request settle once.
pub mod Pricing
