-- Laws of `drill_open`: Opens.
pub mod Opens
