-- What the contract of `fresh_root` cites.
pub mod Working
