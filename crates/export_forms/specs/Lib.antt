-- What the exported functions that hand over a record's offset or a form leave.
pub mod Forms
