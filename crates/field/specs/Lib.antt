-- What the contracts of `field`, and of the crates above it, cite.
pub mod Field
pub mod Tables
