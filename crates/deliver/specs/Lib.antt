-- What the contract of `deliver` cites: Delivered. Working is the way its functions go.
pub mod Delivered
pub mod Working
