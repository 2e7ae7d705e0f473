-- How far a lever goes, which the contracts cite beside the rules.
pub mod Lever
