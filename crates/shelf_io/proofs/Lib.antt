pub mod Names
pub mod Reading
pub mod Recorded
pub mod SlotLemmas
pub mod SteadyLemmas
