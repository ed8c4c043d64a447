-- Orders of words over elements, with more letters at the end.
use Rattle.std.proofs.Common.{◌≡◌, ◌≢◌, ℕ, ◌+◌, ◌≤◌, sym, ◌∙◌, ap, List, [], ◌++◌, length, length-append, arith}
use Rattle.word_field.specs.Field.{FieldOps, IsField}
use Rattle.monomial_order.specs.Monomial.{Exponents, IsMonomial}
use Rattle.monomial_order.specs.MonomialOrder.{MonomialOrder}
use Rattle.monomial_order.specs.Orders.{word_order}
use Rattle.monomial_order.specs.declared.word_order.WordOrder.{WordOrder}
use Rattle.word_laws.specs.laws.Longer.{longer_compare, longer_degree}
use Rattle.polynomials.specs.Polynomial.{Polynomial, coefficient, AllAt, IsCanonical}
use Rattle.polynomials.specs.laws.Coefficients.{found_monomial}
use Rattle.polynomials.specs.laws.Decreasing.{IsDecreasing_IsPoly}
use Rattle.polynomials.specs.laws.Terms.{poly_monomials}
use Rattle.subalgebra_laws.specs.laws.Fronts.{canonical_over}
use Rattle.witness.specs.Tracking.{by_order, IsGraded}
use Rattle.witness.specs.laws.Letters.{by_laws}

-- the order v has the letters of w and more
module _ (w v : WordOrder) (es : List ℕ) (no_x : w.x_degrees.items ≡ []) (none : v.x_degrees.items ≡ []) (more : v.s_degrees.items ≡ w.s_degrees.items ++ es) where
  abbrev W : MonomialOrder
  W = by_order w

  abbrev V : MonomialOrder
  V = by_order v

  abbrev ds : List ℕ
  ds = w.s_degrees.items

  is_front : W ≡ word_order [] ds
  is_front = ap (λ xs. word_order xs ds) no_x

  is_longer : V ≡ word_order [] (ds ++ es)
  is_longer = ap (λ xs. word_order xs v.s_degrees.items) none ∙ ap (word_order []) more

  pub places_front : W.places ≡ length ds
  places_front = ap (λ O. (let N : MonomialOrder = O in N.places)) is_front

  pub places_longer : V.places ≡ length ds + length es
  places_longer = ap (λ O. (let N : MonomialOrder = O in N.places)) is_longer ∙ length-append ds es

  -- words over the letters of w have the same degrees in both, and compare in the same way
  pub same_degree : (m : Exponents) → length m ≤ W.places → V.degree m ≡ W.degree m
  same_degree m l =
      ap (λ O. (let N : MonomialOrder = O in N.degree m)) is_longer ∙
      (longer_degree [] ds es m (let n = places_front in omega arith) ∙ ap (λ O. (let N : MonomialOrder = O in N.degree m)) (sym is_front))

  pub same_compare : (m n : Exponents) → length m ≤ W.places → length n ≤ W.places → V.compare m n ≡ W.compare m n
  same_compare m n hm hn =
      ap (λ O. (let N : MonomialOrder = O in N.compare m n)) is_longer ∙
      (longer_compare [] ds es m n (let n = places_front in omega arith) (let n = places_front in omega arith) ∙
      ap (λ O. (let N : MonomialOrder = O in N.compare m n)) (sym is_front))

  module _ {E : Type 0} (K : FieldOps E) (F : IsField K) (p : Polynomial E) where
    pub canonical_longer : IsCanonical K W p → IsCanonical K V p
    canonical_longer c =
        canonical_over K W V (IsMonomial W.places)
        (λ m h. record { trimmed = h.trimmed; within = let a = h.within in let b = places_front in let d = places_longer in omega arith })
        (λ m n a b. same_compare m n a.within b.within) (λ m a. same_degree m a.within) p
        (poly_monomials K W.places p (IsDecreasing_IsPoly K W p c.decreasing)) c

    -- what is canonical is so without the letters that it does not have
    pub canonical_front : AllAt (IsMonomial W.places) p → IsCanonical K V p → IsCanonical K W p
    canonical_front a c =
        canonical_over K V W (IsMonomial W.places) (λ m h. h) (λ m n a b. sym (same_compare m n a.within b.within)) (λ m a. sym (same_degree m a.within)) p a c

    pub graded_longer : IsCanonical K W p → (d : ℕ) → IsGraded K W d p → IsGraded K V d p
    graded_longer c d h m n =
        same_degree m (let l = found_monomial K F W (by_laws w) p (IsDecreasing_IsPoly K W p c.decreasing) m n in l.within) ∙ h m n
