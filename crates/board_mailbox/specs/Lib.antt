-- What the contracts of `board_mailbox` cite. To be read: Emptied; Once is what holds of every mailbox, and Asked what its functions ask
-- of one another.
pub mod Emptied
pub mod Once
pub mod Asked
