-- Which polynomials have a text.
use Rattle.std.proofs.Common.{◌≢◌, ℕ, zero, suc, ◌<◌, List, [], ◌∷◌, length, refl, arith, IsSome, rules}
use Rattle.std.specs.Prelude.{slice_get}
use Rattle.word_field.specs.Field.{FieldOps}
use Rattle.monomial_order.specs.Monomial.{IsMonomial, exponent}
use Rattle.monomial_order.specs.MonomialOrder.{MonomialOrder}
use Rattle.poly_core.specs.declared.place_names.Names.{Names}
use Rattle.poly_core.specs.declared.place_names.Names.TheVariants.{Listed, Numbered, Paired}
use Rattle.poly_core.specs.Names.{IsNamed, AreNames}
use Rattle.polynomials.specs.Polynomial.{Polynomial, IsDecreasing}
use Rattle.poly_core.specs.Text.{AreValues, AreNamed}

pub exponent_within : (m : List ℕ) (i : ℕ) → exponent m i ≢ 0 → i < length m
exponent_within [] i n = absurd (n refl)
exponent_within (e ∷ m) zero n = omega arith
exponent_within (e ∷ m) (suc i) n = let l = exponent_within m i n in omega arith

listed : {A : Type 0} (xs : List A) (i : ℕ) → i < length xs → IsSome (slice_get xs i)
listed [] i l = absurd (omega arith)
listed (x ∷ xs) zero l = search rules
listed (x ∷ xs) (suc i) l = listed xs i (omega arith)

-- the names of so many places name each monomial in these places
pub names_monomials : (n : ℕ) (names : Names) → AreNames n names → (m : List ℕ) → IsMonomial n m → IsNamed names m
names_monomials n (Listed table) h m w i e = let l = exponent_within m i e in let b = w.within in let c = h.each_place in listed table i (omega arith)
names_monomials n (Numbered prefix skip) h m w i e = absurd h
names_monomials n (Paired first count second) h m w i e = absurd h

module _ {E : Type 0} (K : FieldOps E) (O : MonomialOrder) where
  -- a decreasing list has values of the field as its coefficients
  pub decreasing_values : (p : Polynomial E) → IsDecreasing K O p → AreValues K p
  decreasing_values [] h = tt
  decreasing_values (t ∷ p) h = (h.0.term.value, decreasing_values p h.1)

  -- and the names of the places of the order name its monomials
  pub decreasing_named : (names : Names) → AreNames O.places names → (p : Polynomial E) → IsDecreasing K O p → AreNamed names p
  decreasing_named names n [] h = tt
  decreasing_named names n (t ∷ p) h = (names_monomials O.places names n t.at h.0.term.monomial, decreasing_named names n p h.1)
