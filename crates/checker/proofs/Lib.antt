-- The laws that the functions' proofs cite.
pub mod Copies
pub mod Looks
pub mod Sizes
pub mod Writes
pub mod Told
pub mod Headline
