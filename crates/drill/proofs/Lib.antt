-- Laws of `drill`.
pub mod Goings
pub mod Calls
pub mod Steps
pub mod Promises
pub mod Prefix
