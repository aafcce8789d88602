-- What the contracts of `drill_step` cite. To be read: Boards. Asked is what the functions ask of one another.
pub mod Boards
pub mod Asked
