-- What the contracts of `abi_tile` cite. All of them are public promises.
pub mod Tiles
