-- Figure 4, and what it says of a notice board's bytes. To be read: Figure, then Shown, then History.
pub mod Figure
pub mod Shown
pub mod History
