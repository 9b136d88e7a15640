-- The laws that the functions' proofs cite.
pub mod Ranges
pub mod Pairing
pub mod Taken
pub mod Nearer
pub mod Stepping
pub mod Opened
pub mod Marks
pub mod Walked
pub mod Guarded
pub mod Same
pub mod Listing
pub mod Left
pub mod Spelling
