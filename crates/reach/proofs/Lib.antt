-- The laws that the functions' proofs cite, bottom to top.
pub mod Bits
pub mod Counts
pub mod Words
pub mod Less
pub mod Turns
pub mod Spreading
pub mod Rows
pub mod Marking
pub mod Values
pub mod Links
pub mod Paper
