-- Laws of delivery. The theorems are in Results.
pub mod Weighed
pub mod Lines
pub mod Fresh
pub mod Copying
pub mod Lengths
pub mod Delivering
pub mod Results
