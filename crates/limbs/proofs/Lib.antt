-- The laws that the answers cite: of limbs in any base, and of signs.
pub mod Limbs
pub mod Signs
