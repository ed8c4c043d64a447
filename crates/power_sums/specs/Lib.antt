pub mod PowerSums
