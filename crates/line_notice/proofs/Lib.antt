-- From the bytes of a notice board's step to the promise of the line.
pub mod Notes
pub mod Shown
pub mod Acts
pub mod Steps
pub mod Carry
pub mod Demand
pub mod Pins
pub mod NotEmpty
