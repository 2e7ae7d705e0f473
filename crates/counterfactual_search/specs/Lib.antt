-- What a search goes over.
pub mod Search
