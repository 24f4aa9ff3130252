pub mod FirstFound
pub mod FirstBroken
pub mod OneFirst
