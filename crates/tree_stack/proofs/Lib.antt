-- Laws of the stack.
pub mod Stacks
