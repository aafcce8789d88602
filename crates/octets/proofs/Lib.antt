-- Laws of the definitions, for the crates above.
pub mod Laws
pub mod Parts
pub mod Frame
pub mod Sames
pub mod Picks
pub mod Below
pub mod Walk
pub mod Tables
pub mod Places
pub mod SetLaws
pub mod Members
pub mod Puts
