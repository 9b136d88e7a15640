-- Laws of the paper's fields, bottom to top: each file uses only those above it.
pub mod Heads
pub mod Laws
