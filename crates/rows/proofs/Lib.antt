-- Rows by what they show: layouts, gates, counts, reasons and refusals; loading; forms and printing; the desk's sentences; rounding once; the first
-- milliseconds free; swapping models; the largest banks.
mod Literals
mod Vectors
mod Loading
mod Printing
mod Sentences
mod RoundingRows
mod AllowanceRows
mod AllowanceForms
mod SwapRows
mod Sizes
