-- What stops a request.
pub mod Stop
