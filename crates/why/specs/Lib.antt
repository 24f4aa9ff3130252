pub mod SentenceText
pub mod Number
pub mod Printed
pub mod EventsRun
