-- The public functions' answers, in the paper's words.
pub mod Reports
