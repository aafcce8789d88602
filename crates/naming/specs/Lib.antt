-- What the contracts of `naming` cite.
pub mod Value
