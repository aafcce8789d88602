-- The examples of document 01, and the laws of the calls on records.
pub mod ByHand
pub mod Records
pub mod Notices
