pub mod OneEvent
