-- Laws of the sender's record.
pub mod Rooms
pub mod Levels
pub mod Records
pub mod Taken
pub mod Sends
