-- The laws that the answers cite: of products in any base, of one limb's division, and of a product divided by parts.
pub mod Products
pub mod Turns
pub mod Split
