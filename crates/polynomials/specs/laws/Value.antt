-- A value is a homomorphism in the polynomial.
use Rattle.std.proofs.Common.{◌≡◌, ℕ, zero, suc, ◌+◌, refl, sym, ◌∙◌, ap, List, [], ◌∷◌, ◌++◌, append_assoc, arith}
use Rattle.word_field.specs.Field.{FieldOps, IsField}
use Rattle.word_field.specs.laws.Field.{one-times}
use Rattle.monomial_order.specs.declared.terms.Term.{Term}
use Rattle.monomial_order.specs.Monomial.{Exponents, product}
use Rattle.polynomials.specs.Polynomial.{Polynomial, same_monomial, total, share, coefficient, Same, term_of, term_times, scaled, times, constant}
use Rattle.polynomials.specs.Value.{power, monomial_value, term_value, value}
use Rattle.polynomials.specs.laws.Sums.{total_same, total-map, total_times}
use Rattle.polynomials.specs.laws.Ring.{coefficient_value, coefficient-append, times_comm, times_assoc, times_plus}
use Rattle.polynomials.specs.laws.Same.{weighed, weighed_same, times_same, times_same_left, append_same, share_times}

append-nil : {A : Type 0} (xs : List A) → xs ++ [] ≡ xs
append-nil [] = refl
append-nil (x ∷ xs) = ap (λ ys. x ∷ ys) (append-nil xs)

module _ {E : Type 0} (K : FieldOps E) (F : IsField K) where
  pub coefficient-scaled : (c : E) (p : Polynomial E) (m : Exponents) → coefficient K (scaled K (term_of [] c) p) m ≡ K.times c (coefficient K p m)
  unfolding coefficient
  coefficient-scaled c p m =
      total-map K F (share K m) (term_times K (term_of [] c)) p ∙
      (total_same K F (λ u. share K m (term_times K (term_of [] c) u)) (λ u. K.times c (share K m u)) (λ u. share_times K F (same_monomial u.at m) c u.by) p ∙
      total_times K F c (share K m) p)

  pub coefficient-constant_times : (c : E) (p : Polynomial E) (m : Exponents) → coefficient K (times K (constant K c) p) m ≡ K.times c (coefficient K p m)
  coefficient-constant_times c p m = ap (λ q. coefficient K q m) (append-nil (scaled K (term_of [] c) p)) ∙ coefficient-scaled c p m

  pub one_times : (p : Polynomial E) → Same K (times K (constant K K.one) p) p
  one_times p m = simp (coefficient-constant_times, one-times K F, coefficient_value K F)

  -- (a b) (c d) = (a c) (b d)
  pub times_four : (a b c d : Polynomial E) → Same K (times K (times K a b) (times K c d)) (times K (times K a c) (times K b d))
  times_four a b c d m =
      times_assoc K F a b (times K c d) m ∙
      (times_same K F a a (times K b (times K c d)) (times K c (times K b d)) (λ n. refl)
      (λ n. sym (times_assoc K F b c d n) ∙ (times_same_left K F (times K b c) (times K c b) d (times_comm K F b c) n ∙ times_assoc K F c b d n)) m ∙
      sym (times_assoc K F a c (times K b d) m))

  pub power_plus : (f : Polynomial E) (a b : ℕ) → Same K (power K f (a + b)) (times K (power K f a) (power K f b))
  power_plus f zero b m =
      ap (λ n. coefficient K (power K f n) m) (let e : zero + b ≡ b = omega arith in e) ∙ sym (one_times (power K f b) m)
  power_plus f (suc a) b m =
      ap (λ n. coefficient K (power K f n) m) (let e : suc a + b ≡ suc (a + b) = omega arith in e) ∙
      (times_same K F f f (power K f (a + b)) (times K (power K f a) (power K f b)) (λ n. refl) (power_plus f a b) m ∙
      sym (times_assoc K F f (power K f a) (power K f b) m))

  pub monomial_value-product : (a b : Exponents) (fs : List (Polynomial E)) →
      Same K (monomial_value K (product a b) fs) (times K (monomial_value K a fs) (monomial_value K b fs))
  monomial_value-product [] b fs m = sym (one_times (monomial_value K b fs) m)
  monomial_value-product (e ∷ a) [] fs m = sym (times_comm K F (monomial_value K (e ∷ a) fs) (constant K K.one) m ∙ one_times (monomial_value K (e ∷ a) fs) m)
  monomial_value-product (e ∷ a) (d ∷ b) [] m = sym (one_times (constant K K.one) m)
  monomial_value-product (e ∷ a) (d ∷ b) (f ∷ fs) m =
      times_same K F (power K f (e + d)) (times K (power K f e) (power K f d)) (monomial_value K (product a b) fs) (times K (monomial_value K a fs) (monomial_value K b fs))
      (power_plus f e d) (monomial_value-product a b fs) m ∙
      times_four (power K f e) (power K f d) (monomial_value K a fs) (monomial_value K b fs) m

  pub value-append : (h k : Polynomial E) (fs : List (Polynomial E)) → value K (h ++ k) fs ≡ value K h fs ++ value K k fs
  value-append [] k fs = refl
  value-append (t ∷ h) k fs =
      ap (λ p. term_value K fs t ++ p) (value-append h k fs) ∙ sym (append_assoc (term_value K fs t) (value K h fs) (value K k fs))

  value_weighed : (h : Polynomial E) (fs : List (Polynomial E)) (m : Exponents) →
      coefficient K (value K h fs) m ≡ total K (weighed K (λ a. coefficient K (monomial_value K a fs) m)) h
  unfolding coefficient
  value_weighed [] fs m = refl
  value_weighed (t ∷ h) fs m = simp (coefficient-append K F (term_value K fs t) (value K h fs) m, coefficient-constant_times t.by (monomial_value K t.at fs) m, value_weighed h fs m)

  pub value_same : (h k : Polynomial E) (fs : List (Polynomial E)) → Same K h k → Same K (value K h fs) (value K k fs)
  value_same h k fs e m =
      value_weighed h fs m ∙ (weighed_same K F (λ a. coefficient K (monomial_value K a fs) m) h k e ∙ sym (value_weighed k fs m))

  term_value-times : (t u : Term E) (fs : List (Polynomial E)) → Same K (term_value K fs (term_times K t u)) (times K (term_value K fs t) (term_value K fs u))
  term_value-times t u fs m =
      times_same K F (constant K (K.times t.by u.by)) (times K (constant K t.by) (constant K u.by))
      (monomial_value K (product t.at u.at) fs) (times K (monomial_value K t.at fs) (monomial_value K u.at fs))
      (λ n. refl) (monomial_value-product t.at u.at fs) m ∙
      times_four (constant K t.by) (constant K u.by) (monomial_value K t.at fs) (monomial_value K u.at fs) m

  pub times-append : (p q r : Polynomial E) → times K (p ++ q) r ≡ times K p r ++ times K q r
  times-append [] q r = refl
  times-append (x ∷ p) q r = ap (λ s. scaled K x r ++ s) (times-append p q r) ∙ sym (append_assoc (scaled K x r) (times K p r) (times K q r))

  pub value-scaled : (t : Term E) (k : Polynomial E) (fs : List (Polynomial E)) → Same K (value K (scaled K t k) fs) (times K (term_value K fs t) (value K k fs))
  value-scaled t [] fs m = times_nil (term_value K fs t) m
    where
      times_nil : (p : Polynomial E) → Same K [] (times K p [])
      times_nil [] n = refl
      times_nil (x ∷ p) n = times_nil p n
  value-scaled t (u ∷ k) fs m =
      append_same K F (term_value K fs (term_times K t u)) (times K (term_value K fs t) (term_value K fs u)) (value K (scaled K t k) fs) (times K (term_value K fs t) (value K k fs))
      (term_value-times t u fs) (value-scaled t k fs) m ∙
      sym (times_plus K F (term_value K fs t) (term_value K fs u) (value K k fs) m)

  pub value-times : (h k : Polynomial E) (fs : List (Polynomial E)) → Same K (value K (times K h k) fs) (times K (value K h fs) (value K k fs))
  value-times [] k fs m = refl
  value-times (t ∷ h) k fs m =
      ap (λ p. coefficient K p m) (value-append (scaled K t k) (times K h k) fs) ∙
      (append_same K F (value K (scaled K t k) fs) (times K (term_value K fs t) (value K k fs)) (value K (times K h k) fs) (times K (value K h fs) (value K k fs))
      (value-scaled t k fs) (value-times h k fs) m ∙
      ap (λ p. coefficient K p m) (sym (times-append (term_value K fs t) (value K h fs) (value K k fs))))

  pub value-constant : (c : E) (fs : List (Polynomial E)) → Same K (value K (constant K c) fs) (constant K c)
  value-constant c fs m =
      ap (λ p. coefficient K p m) (append-nil (term_value K fs (term_of [] c))) ∙
      (times_same K F (constant K c) (constant K c) (monomial_value K [] fs) (constant K K.one) (λ n. refl) (λ n. refl) m ∙
      (times_comm K F (constant K c) (constant K K.one) m ∙ one_times (constant K c) m))
