-- Laws of `drill_print`: Prints of text one after the other.
pub mod Prints
