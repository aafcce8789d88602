-- Laws of encoding by columns.
pub mod Patches
pub mod Sums
pub mod Bitwise
pub mod Columns
pub mod Draws
pub mod Sizes
