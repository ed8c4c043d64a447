-- The summary of a completion.
use Rattle.std.specs.Prelude.{◌≡◌, ℕ, List, ◌++◌, length, codes}
use Rattle.std.specs.Fmt.{decimal}
use Rattle.polynomials.specs.Polynomial.{Polynomial}
use Rattle.polynomials.specs.Subalgebra.{Presented, IsReducedBasis}
use Rattle.completion.specs.Report.{HasMark}

-- the text of a trial with this bound, so many elements and this mark
abbrev pub trial_text : ℕ → ℕ → ℕ → List ℕ → List ℕ
trial_text number bound count mark =
    codes "trial " ++ (decimal number ++ (codes "\nbound " ++ (decimal bound ++ (codes "\nbasis " ++ (decimal count
    ++ (codes "\nmark " ++ (mark ++ codes "\nend\n")))))))

-- the summary of the reduced basis to a bound
pub record IsSummary {E : Type 0} (P : Presented E) (number bound : ℕ) (text : List ℕ) : Type 0 where
  pub basis : List (Polynomial E)
  pub reduced : IsReducedBasis P bound basis
  pub mark : List ℕ
  pub has_mark : HasMark P bound basis mark
  pub is : text ≡ trial_text number bound (length basis) mark
