-- What the contracts of `code_encode`, and of the crates above it, cite.
pub mod Patch
pub mod Message
