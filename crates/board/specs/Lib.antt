-- What the contracts of `board`, `board_mark` and `board_plan` cite.
pub mod Planned
pub mod Started
pub mod Stepped
