-- What the contracts cite beside the rules: room for four levers.
pub mod Levers
