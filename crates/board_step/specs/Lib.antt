-- What the contracts of `board_step` cite. To be read: Step. Asked is what its functions ask of one another.
pub mod Step
pub mod Asked
