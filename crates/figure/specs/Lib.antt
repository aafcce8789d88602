-- What the figures of the broadcasts share. To be read: Received, then Fires, Acts, then Run.
pub mod Received
pub mod Fires
pub mod Acts
pub mod Run
