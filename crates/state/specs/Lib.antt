-- What the contracts of `state` and `state_sound` cite.
pub mod State
pub mod Sound
pub mod Kept
