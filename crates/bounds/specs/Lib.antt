-- How long the words of an entry can be: open `Longest` first.
pub mod Longest
