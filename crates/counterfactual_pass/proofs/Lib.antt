-- The laws of a pass, by the bank and by what the others offer, of what may be asked, and of what is asked over live records, which callers cite.
pub mod Listed
pub mod Varied
pub mod Passes
pub mod LiveQuestions
pub mod AmongQuestions
