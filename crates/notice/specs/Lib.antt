-- What the contracts of `notice` cite: the records of notices, and what a board keeps of them.
pub mod Form
pub mod Kinds
pub mod Fields
pub mod State
pub mod Sound
