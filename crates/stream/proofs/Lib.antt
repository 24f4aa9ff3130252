pub mod Texts
pub mod JoinedTexts
pub mod LinePlaces
