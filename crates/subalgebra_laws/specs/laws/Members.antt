-- Constants and generators are members of the subalgebra.
use Rattle.std.proofs.Common.{sym, ◌∙◌, ap, subst, refl, List, [], ◌∷◌, ⊎_elim, length, arith}
use Rattle.std.specs.Prelude.{Contains}
use Rattle.std.proofs.lemmas.List.{get_or_default}
use Rattle.word_field.specs.Field.{IsValue}
use Rattle.monomial_order.specs.Monomial.{variable}
use Rattle.monomial_order.specs.laws.Lists.{contains_cases, contains_none}
use Rattle.monomial_order.specs.laws.Monomial.{variable_trimmed, variable_length}
use Rattle.polynomials.specs.Polynomial.{Polynomial, coefficient, term_of, constant, IsPoly}
use Rattle.polynomials.specs.Value.{value}
use Rattle.polynomials.specs.Subalgebra.{Presented, IsPresentation, AreGenerators, InSubalgebra}
use Rattle.polynomials.specs.laws.Value.{value-constant}
use Rattle.polynomials.specs.laws.Congruence.{congruent_same}
use Rattle.polynomials.specs.laws.Coefficients.{constant_poly, value_letter}

module _ {E : Type 0} (P : Presented E) (H : IsPresentation P) where
  pub sub_constant : (f : E) → IsValue P.field f → InSubalgebra P (constant P.field f)
  sub_constant f v = record {
    witness = constant P.field f;
    poly = constant_poly P.field H.field (length P.generators) f v;
    inside = congruent_same P.field H.field P.order.places P.ideal (constant P.field f) (value P.field (constant P.field f) P.generators)
        (λ m. sym (value-constant P.field H.field f P.generators m));
  }

  pub sub_zero : InSubalgebra P []
  sub_zero = record { witness = []; poly = tt; inside = congruent_same P.field H.field P.order.places P.ideal [] [] (λ m. refl) }

  -- a generator is a member of the subalgebra
  pub generator_sub : (f : Polynomial E) → Contains P.generators f → InSubalgebra P f
  generator_sub f h =
      let l = h.1 in
      record {
        witness = term_of (variable h.0) P.field.one ∷ [];
        poly = (record { monomial = record { trimmed = variable_trimmed h.0; within = let n = variable_length h.0 in omega arith }; value = H.field.one_value }, tt);
        inside = congruent_same P.field H.field P.order.places P.ideal f (value P.field (term_of (variable h.0) P.field.one ∷ []) P.generators)
            (λ m. sym (value_letter P.field H.field P.generators h.0 l m ∙ ap (λ p. coefficient P.field p m) (get_or_default P.generators h.0 [] f l ∙ h.2)));
      }

  pub generator_poly : (f : Polynomial E) → Contains P.generators f → IsPoly P.field P.order.places f
  generator_poly f h = among P.generators H.generators f h
    where
      among : (gs : List (Polynomial E)) → AreGenerators P.field P.order gs → (f : Polynomial E) → Contains gs f → IsPoly P.field P.order.places f
      among [] h f k = absurd (contains_none f k)
      among (g ∷ gs) h f k = ⊎_elim (λ e. subst (IsPoly P.field P.order.places) e h.0.poly) (λ i. among gs h.1 f i) (contains_cases g gs f k)
