pub mod CodeRows
pub mod Decided
pub mod Handles
pub mod Named
pub mod PlanLaws
pub mod Retires
pub mod TheTable
pub mod SlotWrites
