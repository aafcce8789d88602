-- What the contracts of `record` cite.
pub mod Form
pub mod Fields
pub mod Kinds
