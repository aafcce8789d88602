-- Demand 3 for boards that empty mailboxes.
pub mod Polls
pub mod Demand
