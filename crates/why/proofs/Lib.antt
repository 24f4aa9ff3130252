pub mod Sentences
pub mod Pages
pub mod PrintedAnswer
pub mod Numbers
pub mod RunOfEvents
