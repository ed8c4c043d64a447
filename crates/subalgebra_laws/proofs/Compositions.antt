-- Values of values, and values at congruent polynomials.
use Rattle.std.proofs.Common.{◌≡◌, ℕ, zero, suc, ◌<◌, refl, sym, ◌∙◌, ap, List, [], ◌∷◌, length, get_or, arith}
use Rattle.std.specs.Prelude.{map, Contains}
use Rattle.word_field.specs.Field.{FieldOps, IsField}
use Rattle.monomial_order.specs.laws.Lists.{contains_here, contains_there}
use Rattle.polynomials.specs.Polynomial.{Polynomial, coefficient, Same, constant, IsPoly}
use Rattle.polynomials.specs.Ideal.{Congruent}
use Rattle.polynomials.specs.Value.{power, value, monomial_value, term_value}
use Rattle.polynomials.specs.Subalgebra.{Presented, IsPresentation}
use Rattle.polynomials.specs.laws.Same.{times_same, append_same}
use Rattle.polynomials.specs.laws.Value.{value-append, value-times, value-constant}
use Rattle.polynomials.specs.laws.Coefficients.{constant_poly}
use Rattle.polynomials.specs.laws.Congruence.{congruent_refl, congruent_plus, congruent_times, congruent_times_left}
use Rattle.polynomials.specs.laws.Membership.{ArePolys, IsPoly-power, IsPoly-monomial_value}
use Rattle.subalgebra_laws.specs.Statements.{ValuesAreCongruent}

module _ {E : Type 0} (K : FieldOps E) (F : IsField K) (fs : List (Polynomial E)) where
  abbrev at : Polynomial E → Polynomial E
  at h = value K h fs

  power_composes : (h : Polynomial E) (e : ℕ) → Same K (power K (at h) e) (at (power K h e))
  power_composes h zero m = sym (value-constant K F K.one fs m)
  power_composes h (suc e) m = times_same K F (at h) (at h) (power K (at h) e) (at (power K h e)) (λ i. refl) (power_composes h e) m ∙ sym (value-times K F h (power K h e) fs m)

  monomial_composes : (w : List ℕ) (hs : List (Polynomial E)) → Same K (monomial_value K w (map at hs)) (at (monomial_value K w hs))
  monomial_composes [] hs m = sym (value-constant K F K.one fs m)
  monomial_composes (e ∷ w) [] m = sym (value-constant K F K.one fs m)
  monomial_composes (e ∷ w) (h ∷ hs) m =
      times_same K F (power K (at h) e) (at (power K h e)) (monomial_value K w (map at hs)) (at (monomial_value K w hs)) (power_composes h e) (monomial_composes w hs) m ∙
      sym (value-times K F (power K h e) (monomial_value K w hs) fs m)

  pub value_composes : (e : Polynomial E) (hs : List (Polynomial E)) → Same K (value K e (map at hs)) (at (value K e hs))
  value_composes [] hs m = refl
  value_composes (t ∷ e) hs m =
      append_same K F (term_value K (map at hs) t) (at (term_value K hs t)) (value K e (map at hs)) (at (value K e hs))
      (λ i. times_same K F (constant K t.by) (at (constant K t.by)) (monomial_value K t.at (map at hs)) (at (monomial_value K t.at hs)) (λ j. sym (value-constant K F t.by fs j)) (monomial_composes t.at hs) i ∙
      sym (value-times K F (constant K t.by) (monomial_value K t.at hs) fs i)) (value_composes e hs) m ∙
      ap (λ p. coefficient K p m) (sym (value-append K F (term_value K hs t) (value K e hs) fs))

module _ {E : Type 0} (P : Presented E) (H : IsPresentation P) where
  open P use {field as K, order as O, ideal as rs}
  open H use {field as F}

  polys : (fs : List (Polynomial E)) → ((f : Polynomial E) → Contains fs f → IsPoly K O.places f) → ArePolys K F O.places fs
  polys [] h = tt
  polys (f ∷ fs) h = (h f (contains_here f fs), polys fs (λ x k. h x (contains_there f fs x k)))

  power_congruent : (f g : Polynomial E) (e : ℕ) → IsPoly K O.places f → IsPoly K O.places g → Congruent K O.places rs f g → Congruent K O.places rs (power K f e) (power K g e)
  power_congruent f g zero hf hg c = congruent_refl K F O.places rs (constant K K.one)
  power_congruent f g (suc e) hf hg c = congruent_times K F O.places rs f g (power K f e) (power K g e) hf (IsPoly-power K F O.places g e hg) c (power_congruent f g e hf hg c)

  monomial_congruent : (w : List ℕ) (fs gs : List (Polynomial E)) → length fs ≡ length gs → ArePolys K F O.places fs → ArePolys K F O.places gs → ((i : ℕ) → i < length fs → Congruent K O.places rs (get_or fs i []) (get_or gs i [])) →
      Congruent K O.places rs (monomial_value K w fs) (monomial_value K w gs)
  monomial_congruent [] fs gs l hf hg c = congruent_refl K F O.places rs (constant K K.one)
  monomial_congruent (e ∷ w) [] [] l hf hg c = congruent_refl K F O.places rs (constant K K.one)
  monomial_congruent (e ∷ w) [] (g ∷ gs) l hf hg c = absurd (omega arith)
  monomial_congruent (e ∷ w) (f ∷ fs) [] l hf hg c = absurd (omega arith)
  monomial_congruent (e ∷ w) (f ∷ fs) (g ∷ gs) l hf hg c =
      congruent_times K F O.places rs (power K f e) (power K g e) (monomial_value K w fs) (monomial_value K w gs) (IsPoly-power K F O.places f e hf.0) (IsPoly-monomial_value K F O.places w gs hg.1)
      (power_congruent f g e hf.0 hg.0 (c 0 (omega arith))) (monomial_congruent w fs gs (omega arith) hf.1 hg.1 (λ i k. c (suc i) (omega arith)))

  pub value_congruent : ValuesAreCongruent P
  value_congruent k e fs gs he c = by_terms e he
    where
      by_terms : (e : Polynomial E) → IsPoly K k e → Congruent K O.places rs (value K e fs) (value K e gs)
      by_terms [] h = congruent_refl K F O.places rs []
      by_terms (t ∷ e) h = congruent_plus K F O.places rs (term_value K fs t) (term_value K gs t) (value K e fs) (value K e gs)
          (congruent_times_left K F O.places rs (constant K t.by) (monomial_value K t.at fs) (monomial_value K t.at gs) (constant_poly K F O.places t.by h.0.value)
          (monomial_congruent t.at fs gs c.same_length (polys fs c.left) (polys gs c.right) c.each)) (by_terms e h.1)
