-- The canonical text of words and polynomials.
use Rattle.std.specs.Prelude.{ℕ, zero, suc, List, [], ◌∷◌, ◌++◌, map, nat_eq, if◌then◌else◌, codes}
use Rattle.std.specs.Fmt.{decimal}
use Rattle.std.specs.List.{join_with_byte}
use Rattle.word_field.specs.Field.{FieldOps, IsValue}
use Rattle.monomial_order.specs.declared.terms.Term.{Term}
use Rattle.poly_core.specs.declared.place_names.Names.{Names}
use Rattle.poly_core.specs.Names.{name_of, IsNamed}
use Rattle.polynomials.specs.Polynomial.{Polynomial}
use Rattle.monomial_order.specs.Monomial.{Exponents}

-- the name, and the exponent if it is not 1
abbrev pub factor_text : List ℕ → ℕ → List ℕ
factor_text name e = if nat_eq e 1 then name else name ++ (94 ∷ decimal e)  -- 94 is `^`

-- the factors of nonzero exponent, in the order of the places; the first exponent is that of the place i
abbrev pub factors : Names → ℕ → Exponents → List (List ℕ)
factors names i [] = []
factors names i (zero ∷ m) = factors names (suc i) m
factors names i (suc e ∷ m) = factor_text (name_of names i) (suc e) ∷ factors names (suc i) m

-- factors joined by `*`; nothing for the monomial 1
abbrev pub factors_text : Names → Exponents → List ℕ
factors_text names m = join_with_byte 42 (factors names 0 m)

-- the monomial 1 by itself is `1`
abbrev pub monomial_text : Names → Exponents → List ℕ
monomial_text names [] = codes "1"
monomial_text names (e ∷ m) = factors_text names (e ∷ m)

-- pieces with a text between them
abbrev pub join : List ℕ → List (List ℕ) → List ℕ
join between [] = []
join between (x ∷ []) = x
join between (x ∷ (y ∷ xs)) = x ++ (between ++ join between (y ∷ xs))

module _ {E : Type 0} (K : FieldOps E) (names : Names) where
  -- the coefficient, `*` and the monomial; a coefficient 1 and a monomial 1 are left out, but not both
  abbrev pub term_text : Term E → List ℕ
  term_text t = coefficient_and (K.word t.by) t.at
    where
      coefficient_and : ℕ → Exponents → List ℕ
      coefficient_and c [] = decimal c
      coefficient_and c (e ∷ m) = if nat_eq c 1 then factors_text names (e ∷ m) else decimal c ++ (42 ∷ factors_text names (e ∷ m))

  -- the terms in their order, joined by ` + `; zero is `0`
  abbrev pub poly_text : Polynomial E → List ℕ
  poly_text [] = codes "0"
  poly_text (t ∷ p) = join (codes " + ") (map term_text (t ∷ p))

-- each coefficient is a value of the field
abbrev pub AreValues : {E : Type 0} → FieldOps E → Polynomial E → Type 0
AreValues K [] = Unit {0}
AreValues K (t ∷ p) = IsValue K t.by × AreValues K p

-- each place that a monomial of the polynomial has is named
abbrev pub AreNamed : {E : Type 0} → Names → Polynomial E → Type 0
AreNamed names [] = Unit {0}
AreNamed names (t ∷ p) = IsNamed names t.at × AreNamed names p
