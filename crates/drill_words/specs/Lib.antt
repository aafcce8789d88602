-- What the contracts of `drill_words` cite.
pub mod Words
pub mod Numbers
