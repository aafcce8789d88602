-- Laws that several proofs cite.
pub mod Rounds
pub mod Masks
pub mod Next
pub mod Padding
pub mod Blocks
pub mod Digest
pub mod Published
