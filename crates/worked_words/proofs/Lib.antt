pub mod ZeroLists
