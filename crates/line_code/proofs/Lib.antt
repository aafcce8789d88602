-- Laws of hash, tree, code and records of one table, as the fragment broadcast asks for them.
pub mod ByteLaws
pub mod Encodings
pub mod Records
pub mod Lines
pub mod Mails
pub mod Results
pub mod Strings
pub mod Codes
pub mod Bounds
