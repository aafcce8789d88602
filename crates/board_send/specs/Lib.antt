-- What the contracts of `board_send` cite.
pub mod Sent
pub mod Laying
