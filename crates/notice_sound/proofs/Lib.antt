-- Laws of the definitions, for the proofs of the functions.
pub mod Counts
