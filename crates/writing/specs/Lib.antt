-- What public promises cite: cards as they are written (SPECIFICATION 15).
pub mod Pieces
pub mod Written
pub mod Rules
pub mod Block
-- What private contracts cite alone.
pub mod Passes
