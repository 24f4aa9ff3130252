pub mod SameBytes
pub mod AnswerLines
