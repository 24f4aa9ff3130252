pub mod Compared
pub mod WrittenAnswers
