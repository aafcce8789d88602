-- Laws of `drill_boards`: Slots and Zeros of the lent buffers, Copied of a record in a slot.
pub mod Slots
pub mod Zeros
