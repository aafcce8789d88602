-- Laws of `mailbox`: Framing.
pub mod Framing
