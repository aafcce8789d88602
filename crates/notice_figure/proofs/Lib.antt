-- A notice board's step is figure 4's. To be read: Overdue, StepIsFigure, History and Both (the last theorems of each).
pub mod Alike
pub mod Firing
pub mod Reaching
pub mod Overdue
pub mod Received
pub mod Words
pub mod Refusals
pub mod StepIsFigure
pub mod History
pub mod Both
