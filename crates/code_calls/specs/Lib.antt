-- What the contracts of `code_calls` cite.
pub mod Hashing
pub mod Encoding
pub mod Rebuilding
pub mod Reading
