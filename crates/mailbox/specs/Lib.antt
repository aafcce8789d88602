-- What the contracts of `mailbox`, and of `board_mailbox`, cite.
pub mod Items
