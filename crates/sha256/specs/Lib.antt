-- What the contracts of `sha256` cite.
pub mod Words
pub mod Tables
pub mod Sha256
pub mod Chain
