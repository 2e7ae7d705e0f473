-- Where the numbers of a boundary call's answer stand.
pub mod Layout
