-- The best two that a decision is made from, and a scan's state with fewer that are switched off.
pub mod Top
pub mod Less
