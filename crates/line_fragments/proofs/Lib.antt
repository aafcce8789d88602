-- From one step of a board to the promise of the fragment broadcast.
pub mod Bases
pub mod Pieces
pub mod Steps
pub mod Spreads
pub mod Delivers
pub mod Promises
pub mod Hashes
pub mod Examples
