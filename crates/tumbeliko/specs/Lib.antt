-- What the contracts of `tumbeliko` cite beside the definitions of the crates below.
pub mod Tables
pub mod Records
pub mod Notices
