-- The laws that the functions' proofs cite, bottom to top.
pub mod Levels
pub mod Settling
pub mod Meeting
pub mod Sorting
pub mod Counted
