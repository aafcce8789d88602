-- What holds of every kind of such boards: sets kept as numbers against sets on paper, and runs of bytes against runs on paper.
pub mod Shown
pub mod Carry
pub mod Copied
pub mod Puts
