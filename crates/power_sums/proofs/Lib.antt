pub mod Powers
pub mod SumForms
pub mod Ranges
pub mod VariableNames
pub mod WholeSums
