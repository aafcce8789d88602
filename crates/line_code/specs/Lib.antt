-- The fragment broadcast's hash, tree, code and records: ours, of one table.
pub mod Parts
