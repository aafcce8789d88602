-- What the contracts of `drill` cite. To be read: Drill and Call. Asked is what its functions ask of one another.
pub mod Drill
pub mod Call
pub mod Asked
