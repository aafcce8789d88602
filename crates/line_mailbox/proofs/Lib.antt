-- Demand 3 for boards that empty mailboxes.
pub mod Alike
pub mod Items
pub mod Slots
pub mod Filed
pub mod Polling
pub mod Demand
