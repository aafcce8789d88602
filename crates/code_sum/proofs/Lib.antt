-- Laws of weighed sums.
pub mod Totals
pub mod Weighing
pub mod Bitwise
