-- The fragment broadcast over any hash, tree and code: a board's step, the strings hashed in a run, and what is asked of the rest.
pub mod Code
pub mod Step
pub mod Hashed
pub mod Laws
