-- What the contracts of `reader` cite. Public promises cite all of it.
pub mod Fields
