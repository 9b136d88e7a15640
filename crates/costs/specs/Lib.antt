-- What the distances are to hold, in the paper's words, and the words of the functions between.
pub mod Distances
pub mod Levels
