-- Leads that letters of words stand for.
use Rattle.std.specs.Prelude.{ℕ, ◌≤◌, List, length, Contains}
use Rattle.monomial_order.specs.Limits.{degree_max}
use Rattle.monomial_order.specs.Monomial.{Exponents, IsMonomial, weighted_degree}
use Rattle.word_laws.specs.Words.{Letters}

-- the letters x_1, .., x_n of these degrees and s_1, .., s_r for these leads
abbrev pub letters : List ℕ → List Exponents → Letters
letters degrees leads = record { degrees = degrees; leads = leads }

-- a monomial in the x of a positive degree of at most degree_max
pub record IsLetterLead (degrees : List ℕ) (m : Exponents) : Type 0 where
  pub monomial : IsMonomial (length degrees) m
  pub positive : 1 ≤ weighted_degree degrees m
  pub small : weighted_degree degrees m ≤ degree_max

abbrev pub AreLetterLeads : List ℕ → List Exponents → Type 0
AreLetterLeads degrees leads = (m : Exponents) → Contains leads m → IsLetterLead degrees m
