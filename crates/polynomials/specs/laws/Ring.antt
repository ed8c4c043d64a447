-- The laws of a commutative ring, up to equal coefficients.
use Rattle.std.proofs.Common.{◌≡◌, refl, sym, ◌∙◌, ap, [], ◌∷◌, ◌++◌}
use Rattle.word_field.specs.Field.{FieldOps, IsField, IsValue}
use Rattle.monomial_order.specs.declared.terms.Term.{Term}
use Rattle.monomial_order.specs.Monomial.{Exponents, product}
use Rattle.monomial_order.specs.laws.Monomial.{product_comm, product_assoc}
use Rattle.polynomials.specs.Polynomial.{Polynomial, total, share, coefficient, Same, term_of, term_times, times}
use Rattle.polynomials.specs.laws.Sums.{total_value, total-append, total_same, total-map, total_plus, total_swap}

module _ {E : Type 0} (K : FieldOps E) (F : IsField K) where
  pub coefficient_value : (p : Polynomial E) (m : Exponents) → IsValue K (coefficient K p m)
  unfolding coefficient
  coefficient_value p m = total_value K F (share K m) p

  pub coefficient-append : (p q : Polynomial E) (m : Exponents) → coefficient K (p ++ q) m ≡ K.plus (coefficient K p m) (coefficient K q m)
  unfolding coefficient
  coefficient-append p q m = total-append K F (share K m) p q

  pub term_times_comm : (t u : Term E) → term_times K t u ≡ term_times K u t
  term_times_comm t u = ap (λ m. term_of m (K.times t.by u.by)) (product_comm t.at u.at) ∙ ap (term_of (product u.at t.at)) (F.times_comm t.by u.by)

  pub term_times_assoc : (t u v : Term E) → term_times K (term_times K t u) v ≡ term_times K t (term_times K u v)
  term_times_assoc t u v =
      ap (λ m. term_of m (K.times (K.times t.by u.by) v.by)) (product_assoc t.at u.at v.at) ∙
      ap (term_of (product t.at (product u.at v.at))) (F.times_assoc t.by u.by v.by)

  -- a sum over the terms of a product is a sum over the pairs of terms
  pub total-times : (f : Term E → E) (p q : Polynomial E) → total K f (times K p q) ≡ total K (λ t. total K (λ u. f (term_times K t u)) q) p
  total-times f [] q = refl
  total-times f (t ∷ p) q = simp (total-append K F, total-map K F, total-times f p q)

  pub coefficient-times : (p q : Polynomial E) (m : Exponents) →
      coefficient K (times K p q) m ≡ total K (λ t. total K (λ u. share K m (term_times K t u)) q) p
  unfolding coefficient
  coefficient-times p q m = total-times (share K m) p q

  pub times_comm : (p q : Polynomial E) → Same K (times K p q) (times K q p)
  times_comm p q m =
      coefficient-times p q m ∙
      (total_swap K F (λ t u. share K m (term_times K t u)) p q ∙
      (total_same K F (λ u. total K (λ t. share K m (term_times K t u)) p) (λ u. total K (λ t. share K m (term_times K u t)) p)
      (λ u. total_same K F (λ t. share K m (term_times K t u)) (λ t. share K m (term_times K u t)) (λ t. ap (share K m) (term_times_comm t u)) p) q ∙
      sym (coefficient-times q p m)))

  pub times_assoc : (p q r : Polynomial E) → Same K (times K (times K p q) r) (times K p (times K q r))
  times_assoc p q r m =
      coefficient-times (times K p q) r m ∙
      (total-times (λ x. total K (λ v. share K m (term_times K x v)) r) p q ∙
      (total_same K F (λ t. total K (λ u. total K (λ v. share K m (term_times K (term_times K t u) v)) r) q)
      (λ t. total K (λ y. share K m (term_times K t y)) (times K q r))
      (λ t. total_same K F (λ u. total K (λ v. share K m (term_times K (term_times K t u) v)) r) (λ u. total K (λ v. share K m (term_times K t (term_times K u v))) r)
      (λ u. total_same K F (λ v. share K m (term_times K (term_times K t u) v)) (λ v. share K m (term_times K t (term_times K u v))) (λ v. ap (share K m) (term_times_assoc t u v)) r) q
      ∙ sym (total-times (λ y. share K m (term_times K t y)) q r)) p ∙
      sym (coefficient-times p (times K q r) m)))

  pub times_plus : (p q r : Polynomial E) → Same K (times K p (q ++ r)) (times K p q ++ times K p r)
  times_plus p q r m =
      coefficient-times p (q ++ r) m ∙
      (total_same K F (λ t. total K (λ u. share K m (term_times K t u)) (q ++ r))
      (λ t. K.plus (total K (λ u. share K m (term_times K t u)) q) (total K (λ u. share K m (term_times K t u)) r))
      (λ t. total-append K F (λ u. share K m (term_times K t u)) q r) p ∙
      (total_plus K F (λ t. total K (λ u. share K m (term_times K t u)) q) (λ t. total K (λ u. share K m (term_times K t u)) r) p ∙
      (ap (λ x. K.plus x (total K (λ t. total K (λ u. share K m (term_times K t u)) r) p)) (sym (coefficient-times p q m)) ∙
      (ap (K.plus (coefficient K (times K p q) m)) (sym (coefficient-times p r m)) ∙
      sym (coefficient-append (times K p q) (times K p r) m)))))
