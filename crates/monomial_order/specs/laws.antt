-- Lemmas on monomials, lists of them and their orders, that proofs here and in the crates above cite.
pub mod Lists
pub mod Monomial
pub mod Cofactors
pub mod Comparing
pub mod Orders
pub mod Ties
pub mod Rank
