-- The known queries: their bytes, and the table of their answers, row by row, proved by computation.
pub mod Queries
pub mod Rows
pub mod Fixed
pub mod Growing
pub mod Known
