-- What the contracts of `tree`, and of the crates above it, cite. To be read: Tree, Check, Strings, Area. Levels is the way the loops go.
pub mod Tree
pub mod Check
pub mod Strings
pub mod Area
pub mod Levels
