-- What the contracts of `drill_lines` cite. To be read: Lines. Read is what its functions tell.
pub mod Lines
pub mod Read
