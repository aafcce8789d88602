-- What the contracts of `code` cite, and the crates that encode and rebuild.
pub mod Code
pub mod Block
