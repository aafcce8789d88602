-- Demand 3 of the notice boards that C calls.
pub mod Boards
pub mod Demand
