-- What the contracts of `drill_boards` cite. To be read: Held. Room is how the lent buffers hold it.
pub mod Held
pub mod Room
