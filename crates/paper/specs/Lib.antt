-- The paper (01) as definitions, bottom to top: each file uses only those above it.
pub mod Lists
pub mod Fields
pub mod Terms
pub mod Interpretations
pub mod Load
pub mod Sizes
pub mod Edges
pub mod Reach
pub mod Conflict
pub mod Lemma
pub mod Model
pub mod Cells
pub mod Clauses
pub mod Reading
pub mod Answers
pub mod Fronts
pub mod Reasons
