-- What it means that a contract admits one answer.
pub mod OneAnswer
