-- What the contracts of `tree_stack` cite.
pub mod Stack
