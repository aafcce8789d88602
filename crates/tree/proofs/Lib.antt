-- Laws of the tree.
pub mod Spans
pub mod Lifts
pub mod Pairs
pub mod Whole
pub mod Bound
pub mod Flat
pub mod Leaves
pub mod Checks
pub mod Paths
pub mod Runs
pub mod Lays
