pub mod Finding
pub mod Counting
pub mod Storing
pub mod Fronts
