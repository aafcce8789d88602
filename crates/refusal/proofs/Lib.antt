-- Laws of the numbers.
pub mod Numbers
