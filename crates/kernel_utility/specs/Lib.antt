-- What a scan of one record comes to.
pub mod Single
