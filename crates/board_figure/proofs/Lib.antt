-- A board's step is figure 5's. To be read: Begins, Overdue (its last theorems), StepIsFigure (its last), History (its last), NeverBoth.
pub mod Counts
pub mod Firing
pub mod Seen
pub mod Results
pub mod Alike
pub mod Refusals
pub mod Begins
pub mod Overdue
pub mod Received
pub mod Reaching
pub mod Words
pub mod StepIsFigure
pub mod NeverBoth
pub mod History
