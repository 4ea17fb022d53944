-- Laws of bytes made visible, that they are printable, and some texts.
pub mod Showing
pub mod Visibly
