-- Laws of the definitions, for the crates above.
pub mod Fresh
pub mod Starts
pub mod Buffers
pub mod Taken
pub mod KeptLaws
pub mod Calm
pub mod Stays
pub mod StepSound
