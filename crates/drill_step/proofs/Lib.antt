-- Laws of `drill_step`: Bounds of a step's results, Starts of the fresh states, Steps of the receiver's, Turns of what a step of the drill leaves.
pub mod Bounds
pub mod Starts
pub mod Steps
pub mod Turns
