-- What the contracts of `refusal` cite.
pub mod Numbers
pub mod Answers
