pub mod Seldom
