-- A line of boards: its runs, what is promised of them, and the echoes and votes that every kind of board keeps.
pub mod Boards
pub mod Run
pub mod Promise
pub mod Core
pub mod Plain
pub mod Notice
pub mod Project
pub mod Bytes
