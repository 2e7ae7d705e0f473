-- What a scan's state comes to.
pub mod Decide
