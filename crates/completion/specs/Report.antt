-- The report on a presentation to a degree.
use Rattle.std.specs.Prelude.{◌≡◌, ◌⊎◌, ℕ, ◌+◌, List, [], ◌∷◌, ◌++◌, length, codes, Bool, if◌then◌else◌}
use Rattle.std.specs.Fmt.{decimal}
use Rattle.poly_core.specs.declared.place_names.Names.{Names}
use Rattle.poly_core.specs.Text.{monomial_text, poly_text}
use Rattle.polynomials.specs.Polynomial.{Polynomial, lead_monomial}
use Rattle.polynomials.specs.Subalgebra.{Presented, IsReducedBasis}
use Rattle.subalgebra_laws.specs.Bases.{IsClosedAt}

-- the mark
abbrev pub mark_text : Bool → List ℕ
mark_text complete = if complete then codes "complete" else codes "open"

-- the mark says whether nothing new comes after the degree c
abbrev pub HasMark : {E : Type 0} → Presented E → ℕ → List (Polynomial E) → List ℕ → Type 0
HasMark P c S mark = (IsClosedAt P c S × (mark ≡ codes "complete")) ⊎ ((¬ IsClosedAt P c S) × (mark ≡ codes "open"))

module _ {E : Type 0} (P : Presented E) (names : Names) where
  -- the number of the element, the degree of its lead, its lead, and the element
  abbrev pub element_line : ℕ → Polynomial E → List ℕ
  element_line index s =
      decimal index ++ (codes " " ++ (decimal (P.order.degree (lead_monomial s)) ++ (codes " " ++
      (monomial_text names (lead_monomial s) ++ (codes " : " ++ (poly_text P.field names s ++ codes "\n"))))))

  -- a line for each element, numbered from the index on
  abbrev pub element_lines : ℕ → List (Polynomial E) → List ℕ
  element_lines index [] = []
  element_lines index (s ∷ S) = element_line index s ++ element_lines (index + 1) S

  -- the report on these elements to the degree c, with a mark
  abbrev pub report_text : ℕ → List (Polynomial E) → List ℕ → List ℕ
  report_text c S mark =
      codes "report 1\nbound " ++ (decimal c ++ (codes "\nbasis " ++ (decimal (length S) ++ (codes "\n" ++
      (element_lines 1 S ++ (codes "mark " ++ (mark ++ codes "\nend\n")))))))

  -- the text is the report on the reduced basis to the degree c
  pub record IsReport (c : ℕ) (text : List ℕ) : Type 0 where
    pub basis : List (Polynomial E)
    pub reduced : IsReducedBasis P c basis
    pub mark : List ℕ
    pub has_mark : HasMark P c basis mark
    pub is : text ≡ report_text c basis mark
