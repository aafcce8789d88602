-- Laws of the definitions, for the crates above.
pub mod Records
pub mod Due
pub mod Taking
pub mod Outcomes
pub mod Octets
