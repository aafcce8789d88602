-- What the contracts of `drill_open` cite. To be read: Opened. Said is what an answer says of it, Next what the next line is.
pub mod Opened
pub mod Next
pub mod Said
