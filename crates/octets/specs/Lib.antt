-- What the contracts of `octets`, and of every crate above it, cite.
pub mod Bytes
pub mod Sets
