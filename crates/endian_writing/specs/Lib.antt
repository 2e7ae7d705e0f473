-- What writing a number into a list of bytes leaves there.
pub mod Put
