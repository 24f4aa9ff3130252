pub mod Framed
pub mod EventsPlaced
pub mod UnrollsTold
pub mod Clock
pub mod TimelineCodes
pub mod EventCounts
pub mod Theorems
