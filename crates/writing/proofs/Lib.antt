-- Laws of what may be written, of the passes over a text, and of the parts of a card.
pub mod Testing
pub mod Cutting
pub mod Placing
pub mod Counting
pub mod Bodies
pub mod Outcomes
pub mod Plain
