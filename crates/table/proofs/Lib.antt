-- Laws of the table, for the crates above.
pub mod Within
