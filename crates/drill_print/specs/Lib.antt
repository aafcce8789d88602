-- What the contracts of `drill_print` cite. To be read: Text. Printed is what its functions tell.
pub mod Text
pub mod Printed
