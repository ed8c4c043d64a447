-- The terms that a line is read as are terms in the places of the order, with names and with low degrees.
use Rattle.std.proofs.Common.{◌≡◌, ◌≢◌, ℕ, zero, suc, ◌<◌, ◌≤◌, ◌⊎◌, inl, inr, Bool, false, List, [], ◌∷◌, Some, Ok, IsSome, refl, sym, ap, subst, ◌∙◌, ⊎_elim, arith}
use Rattle.std.proofs.lemmas.Bool.{cases_eq}
use Rattle.word_field.specs.Field.{FieldOps, IsField, IsValue}
use Rattle.monomial_order.specs.declared.terms.Term.{Term}
use Rattle.monomial_order.specs.Limits.{degree_max}
use Rattle.monomial_order.specs.Monomial.{product, exponent, IsMonomial}
use Rattle.monomial_order.specs.laws.Monomial.{exponent-product, IsMonomial-product}
use Rattle.monomial_order.specs.MonomialOrder.{MonomialOrder}
use Rattle.poly_core.specs.declared.place_names.Names.{Names}
use Rattle.poly_core.specs.Names.{name_at, IsNamed}
use Rattle.poly_core.specs.Text.{AreNamed}
use Rattle.polynomials.specs.Polynomial.{Polynomial, term_of, IsPoly, AllAt}
use Rattle.polynomial_text.specs.Grammar.{IsConstant, IsPower, IsSpacedFactor, IsNextProduct, IsProduct, one_factor, factors, IsTermOf, IsSum, one_term, terms, IsLine}
use Rattle.polynomial_text.specs.Degrees.{IsLow}
use Rattle.polynomial_text.specs.PolyLine.{sign, power, terms_of}
use Rattle.polynomial_text.specs.laws.Names.{is_some}
use Rattle.polynomial_text.specs.laws.Powers.{power_monomial}
use Rattle.polynomial_text.specs.laws.GrammarRead.{IsLineResult, line_result}

-- ---- names

power_at_place : (i e j : ℕ) → exponent (power i e) j ≢ 0 → j ≡ i
power_at_place i zero j ne = absurd (ne refl)
power_at_place zero (suc e) zero ne = refl
power_at_place zero (suc e) (suc j) ne = absurd (ne refl)
power_at_place (suc i) (suc e) zero ne = absurd (ne refl)
power_at_place (suc i) (suc e) (suc j) ne = ap suc (power_at_place i (suc e) j ne)

module _ (names : Names) (n : ℕ) where
  -- a monomial in the n places, of places with names
  record IsInPlaces (m : List ℕ) : Type 0 where
    named : IsNamed names m
    monomial : IsMonomial n m

  one_in : IsInPlaces []
  one_in = record { named = λ i ne. absurd (ne refl); monomial = record { trimmed = tt; within = omega arith } }

  named_product : (a b : List ℕ) → IsNamed names a → IsNamed names b → IsNamed names (product a b)
  named_product a b h k i ne = ⊎_elim (λ z. k i (λ e. ne (exponent-product a b i ∙ omega arith))) (λ nz. h i nz) (cases_eq (exponent a i) 0)

  product_in : (a b : List ℕ) → IsInPlaces a → IsInPlaces b → IsInPlaces (product a b)
  product_in a b h k = record { named = named_product a b h.named k.named; monomial = IsMonomial-product n a b h.monomial k.monomial }

  power_in : (name : List ℕ) (i e : ℕ) → i < n → name_at names i ≡ Some name → IsInPlaces (power i e)
  power_in name i e inside named = record {
    named = λ j ne. subst (λ k. IsSome (name_at names k)) (sym (power_at_place i e j ne)) (is_some (name_at names i) name named);
    monomial = power_monomial n i e inside;
  }

module _ {E : Type 0} (K : FieldOps E) (O : MonomialOrder) (names : Names) where
  -- a monomial that a text may have
  pub record IsReadable (m : List ℕ) : Type 0 where
    pub named : IsNamed names m
    pub monomial : IsMonomial O.places m
    pub small : O.degree m ≤ degree_max

  factor_in : (bytes : List ℕ) (x : Term E) → IsConstant K O names bytes x ⊎ IsPower K O names bytes x → IsInPlaces names O.places x.at
  factor_in bytes x (inl c) = subst (λ (y : Term E). IsInPlaces names O.places y.at) (sym c.means) (one_in names O.places)
  factor_in bytes x (inr p) = subst (λ (y : Term E). IsInPlaces names O.places y.at) (sym p.means) (power_in names O.places p.name p.place p.exponent p.inside p.named)

  next_in : (t x u : Term E) (part : List ℕ) → IsSpacedFactor K O names part x → IsNextProduct K O names t x u → IsInPlaces names O.places t.at → IsInPlaces names O.places u.at
  next_in t x u part h n inside = subst (λ (v : Term E). IsInPlaces names O.places v.at) (sym n.is) (product_in names O.places t.at x.at inside (factor_in h.factor x h.reads))

  product_readable : (t v : Term E) (bytes : List ℕ) → IsProduct K O names t bytes v → IsInPlaces names O.places t.at → IsReadable v.at
  product_readable t v bytes (one_factor _ _ x _ h n) inside = let next = next_in t x v bytes h n inside in record { named = next.named; monomial = next.monomial; small = n.small }
  product_readable t v bytes (factors _ u _ x _ part rest is h n more) inside = product_readable u v rest more (next_in t x u part h n inside)

  product_value : IsField K → (t v : Term E) (bytes : List ℕ) → IsProduct K O names t bytes v → IsValue K v.by
  product_value F t v bytes (one_factor _ _ x _ h n) = subst (λ (y : Term E). IsValue K y.by) (sym n.is) (F.times_value t.by x.by)
  product_value F t v bytes (factors _ u _ x _ part rest is h n more) = product_value F u v rest more

  term_readable : (minus : Bool) (bytes : List ℕ) (t : Term E) → IsTermOf K O names minus bytes t → IsReadable t.at
  term_readable minus bytes t h = product_readable (term_of [] (sign K O names minus)) t bytes h (one_in names O.places)

  sum_readable : (minus : Bool) (bytes : List ℕ) (ts : Polynomial E) → IsSum K O names minus bytes ts → AllAt IsReadable ts
  sum_readable minus bytes ts (one_term _ _ t h) = (term_readable minus bytes t h, tt)
  sum_readable minus bytes ts (terms _ next _ part rest t us is h more) = (term_readable minus part t h, sum_readable next rest us more)

  sum_poly : IsField K → (minus : Bool) (bytes : List ℕ) (ts : Polynomial E) → IsSum K O names minus bytes ts → IsPoly K O.places ts
  sum_poly F minus bytes ts (one_term _ _ t h) = (record { monomial = (term_readable minus bytes t h).monomial; value = product_value F (term_of [] (sign K O names minus)) t bytes h }, tt)
  sum_poly F minus bytes ts (terms _ next _ part rest t us is h more) =
      (record { monomial = (term_readable minus part t h).monomial; value = product_value F (term_of [] (sign K O names minus)) t part h }, sum_poly F next rest us more)

  -- the terms of a line are those of a sum, which may be behind a sign
  line_sum : (line : List ℕ) (ts : Polynomial E) → terms_of K O names line ≡ Ok ts → (minus : Bool) × (bytes : List ℕ) × IsSum K O names minus bytes ts
  line_sum line ts e = by (subst (IsLineResult K O names line) e (line_result K O names line))
    where
      by : IsLine K O names line ts → (minus : Bool) × (bytes : List ℕ) × IsSum K O names minus bytes ts
      by (inl sum) = (false, line, sum)
      by (inr signed) = (signed.minus, signed.rest, signed.sum)

  pub terms_readable : (line : List ℕ) (ts : Polynomial E) → terms_of K O names line ≡ Ok ts → AllAt IsReadable ts
  terms_readable line ts e = let s = line_sum line ts e in sum_readable s.0 s.1 ts s.2

  pub all_named : (p : Polynomial E) → AllAt IsReadable p → AreNamed names p
  all_named [] h = tt
  all_named (t ∷ p) h = (h.0.named, all_named p h.1)

  pub all_small : (p : Polynomial E) → AllAt IsReadable p → IsLow O p
  all_small [] h = tt
  all_small (t ∷ p) h = (h.0.small, all_small p h.1)

  -- the terms of a line are terms in the places of the order, of degrees of at most degree_max
  pub terms_poly : IsField K → (line : List ℕ) (ts : Polynomial E) → terms_of K O names line ≡ Ok ts → IsPoly K O.places ts
  terms_poly F line ts e = let s = line_sum line ts e in sum_poly F s.0 s.1 ts s.2

  pub terms_low : (line : List ℕ) (ts : Polynomial E) → terms_of K O names line ≡ Ok ts → IsLow O ts
  terms_low line ts e = all_small ts (terms_readable line ts e)
