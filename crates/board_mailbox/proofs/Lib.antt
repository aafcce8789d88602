-- Laws of `board_mailbox`: why a mailbox is refused, one item handed over, one after the other, what is done once only.
pub mod Refusals
pub mod Handing
pub mod Walk
pub mod OneOfEach
pub mod Promises
