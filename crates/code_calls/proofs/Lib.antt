-- What a call that is not refused knows.
pub mod Numbers
pub mod Firsts
pub mod Taken
pub mod Promises
pub mod RoundTrip
