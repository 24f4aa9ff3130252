pub mod Theorems
pub mod Answers
pub mod WhyTold
pub mod TimelineTold
pub mod RunLaws
pub mod PlainAnswers
