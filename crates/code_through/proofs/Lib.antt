-- Laws of rebuilding.
pub mod Newton
pub mod Rows
pub mod Marks
pub mod Weights
pub mod Columns
pub mod Same
pub mod Others
pub mod Agree
pub mod Interpolation
pub mod Outcomes
pub mod OneAnswer
pub mod Encoded
