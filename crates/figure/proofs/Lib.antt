-- What the figures share, proved once.
pub mod Firing
pub mod Acts
pub mod Counts
pub mod Noting
pub mod History
pub mod Refusals
