-- Demand 3 of the boards that C calls: what their line is, and the strings hashed in a run.
pub mod Boards
pub mod Strings
pub mod Demand
