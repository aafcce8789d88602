-- What the contracts of `notice_step` cite: a notice board's start, its step, and the sender's record. Asked is what its functions ask of one another.
pub mod Planned
pub mod Step
pub mod Started
pub mod Sent
pub mod Asked
