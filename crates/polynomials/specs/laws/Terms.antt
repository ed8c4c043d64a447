-- Decreasing lists: their terms, their parts, and their products with a term.
use Rattle.std.proofs.Common.{◌≡◌, ◌≢◌, ℕ, zero, suc, ◌+◌, ◌<◌, ◌≤◌, sym, ◌∙◌, subst, List, [], ◌∷◌, ◌++◌, length, get_or, arith, cond, Bool, true, false}
use Rattle.std.specs.Prelude.{All, nat_eq}
use Rattle.std.specs.declared.cmp.Ordering.TheVariants.{Less}
use Rattle.word_field.specs.Field.{FieldOps, IsField, IsValue}
use Rattle.word_field.specs.laws.Field.{times_not_zero}
use Rattle.monomial_order.specs.declared.terms.Term.{Term}
use Rattle.monomial_order.specs.Monomial.{Exponents, product, IsMonomial}
use Rattle.monomial_order.specs.MonomialOrder.{MonomialOrder, IsMonomialOrder}
use Rattle.monomial_order.specs.laws.Monomial.{IsMonomial-product, product_comm}
use Rattle.polynomials.specs.Polynomial.{Polynomial, term_of, scaled, times, IsTerm, IsPoly, IsBelow, IsLeadTerm, IsDecreasing, IsSmall, IsCanonical, IsMeasured, AllAt, component}
use Rattle.polynomials.specs.laws.Decreasing.{IsDecreasing_IsPoly}

-- what holds of each item of a list holds of each item of its parts
pub all_at : {A : Type 0} (P : A → Type 0) (xs : List A) (i : ℕ) (x : A) → All P xs → i < length xs → x ≡ get_or xs i x → P x
all_at P xs i x h l e = subst P (sym e) (h i x l)

pub all_front : {A : Type 0} (P : A → Type 0) (xs ys : List A) → All P (xs ++ ys) → All P xs
all_front P [] ys h k d l = absurd (omega arith)
all_front P (x ∷ xs) ys h zero d l = h zero d (omega arith)
all_front P (x ∷ xs) ys h (suc k) d l = all_front P xs ys (λ j e m. h (suc j) e (omega arith)) k d (omega arith)

pub all_back : {A : Type 0} (P : A → Type 0) (xs ys : List A) → All P (xs ++ ys) → All P ys
all_back P [] ys h k d l = h k d l
all_back P (x ∷ xs) ys h k d l = all_back P xs ys (λ j e m. h (suc j) e (omega arith)) k d l

module _ {E : Type 0} where
  pub AllAt-append : (P : Exponents → Type 0) (p q : Polynomial E) → AllAt P p → AllAt P q → AllAt P (p ++ q)
  AllAt-append P [] q h k = k
  AllAt-append P (t ∷ p) q h k = (h.0, AllAt-append P p q h.1 k)

  pub AllAt-left : (P : Exponents → Type 0) (p q : Polynomial E) → AllAt P (p ++ q) → AllAt P p
  AllAt-left P [] q h = tt
  AllAt-left P (t ∷ p) q h = (h.0, AllAt-left P p q h.1)

  pub AllAt-right : (P : Exponents → Type 0) (p q : Polynomial E) → AllAt P (p ++ q) → AllAt P q
  AllAt-right P [] q h = h
  AllAt-right P (t ∷ p) q h = AllAt-right P p q h.1

  pub AllAt-map : (P Q : Exponents → Type 0) → ((m : Exponents) → P m → Q m) → (p : Polynomial E) → AllAt P p → AllAt Q p
  AllAt-map P Q f [] h = tt
  AllAt-map P Q f (t ∷ p) h = (f t.at h.0, AllAt-map P Q f p h.1)

module _ {E : Type 0} (K : FieldOps E) where
  pub terms_all : (n : ℕ) (p : Polynomial E) → IsPoly K n p → All (IsTerm K n) p
  terms_all n [] h k d l = absurd (omega arith)
  terms_all n (t ∷ p) h zero d l = h.0
  terms_all n (t ∷ p) h (suc k) d l = terms_all n p h.1 k d (omega arith)

  pub poly_monomials : (n : ℕ) (p : Polynomial E) → IsPoly K n p → AllAt (IsMonomial n) p
  poly_monomials n [] h = tt
  poly_monomials n (t ∷ p) h = (h.0.monomial, poly_monomials n p h.1)

  pub all_terms : (n : ℕ) (p : Polynomial E) → All (IsTerm K n) p → IsPoly K n p
  all_terms n [] h = tt
  all_terms n (t ∷ p) h = (h zero t (omega arith), all_terms n p (λ k d l. h (suc k) d (omega arith)))

  module _ (O : MonomialOrder) where
    -- the coefficients of a decreasing list are values, and not zero
    pub decreasing_values : (p : Polynomial E) → IsDecreasing K O p → All (λ t. IsValue K t.by) p
    decreasing_values [] h k d l = absurd (omega arith)
    decreasing_values (t ∷ p) h zero d l = h.0.term.value
    decreasing_values (t ∷ p) h (suc k) d l = decreasing_values p h.1 k d (omega arith)

    pub decreasing_nonzero : (p : Polynomial E) → IsDecreasing K O p → All (λ t. t.by ≢ K.zero) p
    decreasing_nonzero [] h k d l = absurd (omega arith)
    decreasing_nonzero (t ∷ p) h zero d l = h.0.nonzero
    decreasing_nonzero (t ∷ p) h (suc k) d l = decreasing_nonzero p h.1 k d (omega arith)

    -- the degree of each term of a canonical list can be computed
    pub canonical_measured : (p : Polynomial E) → IsCanonical K O p → All (IsMeasured O) p
    canonical_measured [] h k d l = absurd (omega arith)
    canonical_measured (t ∷ p) h zero d l = record { monomial = h.decreasing.0.term.monomial; small = h.small.0 }
    canonical_measured (t ∷ p) h (suc k) d l = canonical_measured p record { decreasing = h.decreasing.1; small = h.small.1 } k d (omega arith)

    pub IsBelow-append : (m : Exponents) (p q : Polynomial E) → IsBelow K O m p → IsBelow K O m q → IsBelow K O m (p ++ q)
    IsBelow-append m [] q h k = k
    IsBelow-append m (t ∷ p) q h k = (h.0, IsBelow-append m p q h.1 k)

    pub IsBelow-left : (m : Exponents) (p q : Polynomial E) → IsBelow K O m (p ++ q) → IsBelow K O m p
    IsBelow-left m [] q h = tt
    IsBelow-left m (t ∷ p) q h = (h.0, IsBelow-left m p q h.1)

    pub IsBelow-right : (m : Exponents) (p q : Polynomial E) → IsBelow K O m (p ++ q) → IsBelow K O m q
    IsBelow-right m [] q h = h
    IsBelow-right m (t ∷ p) q h = IsBelow-right m p q h.1

    -- the parts of a decreasing list are decreasing
    pub IsDecreasing-left : (p q : Polynomial E) → IsDecreasing K O (p ++ q) → IsDecreasing K O p
    IsDecreasing-left [] q h = tt
    IsDecreasing-left (x ∷ p) q h = (record { term = h.0.term; nonzero = h.0.nonzero; above = IsBelow-left x.at p q h.0.above }, IsDecreasing-left p q h.1)

    pub IsDecreasing-right : (p q : Polynomial E) → IsDecreasing K O (p ++ q) → IsDecreasing K O q
    IsDecreasing-right [] q h = h
    IsDecreasing-right (x ∷ p) q h = IsDecreasing-right p q h.1

module _ {E : Type 0} (O : MonomialOrder) where
  pub IsSmall-append : (p q : Polynomial E) → IsSmall O p → IsSmall O q → IsSmall O (p ++ q)
  IsSmall-append [] q h k = k
  IsSmall-append (t ∷ p) q h k = (h.0, IsSmall-append p q h.1 k)

  pub IsSmall-left : (p q : Polynomial E) → IsSmall O (p ++ q) → IsSmall O p
  IsSmall-left [] q h = tt
  IsSmall-left (t ∷ p) q h = (h.0, IsSmall-left p q h.1)

  pub IsSmall-right : (p q : Polynomial E) → IsSmall O (p ++ q) → IsSmall O q
  IsSmall-right [] q h = h
  IsSmall-right (t ∷ p) q h = IsSmall-right p q h.1

module _ {E : Type 0} (K : FieldOps E) (O : MonomialOrder) where
  pub canonical_left : (p q : Polynomial E) → IsCanonical K O (p ++ q) → IsCanonical K O p
  canonical_left p q h = record { decreasing = IsDecreasing-left K O p q h.decreasing; small = IsSmall-left O p q h.small }

  pub canonical_right : (p q : Polynomial E) → IsCanonical K O (p ++ q) → IsCanonical K O q
  canonical_right p q h = record { decreasing = IsDecreasing-right K O p q h.decreasing; small = IsSmall-right O p q h.small }

  -- a multiple by a constant stays small
  pub IsSmall-multiple : (c : E) (p : Polynomial E) → IsSmall O p → IsSmall O (scaled K (term_of [] c) p)
  IsSmall-multiple c [] h = tt
  IsSmall-multiple c (t ∷ p) h = (h.0, IsSmall-multiple c p h.1)

  -- the degrees of products do not depend on the order of the factors
  small_heads : (p : Polynomial E) (u : Term E) (q : Polynomial E) → IsSmall O (times K p (u ∷ q)) → IsSmall O (scaled K u p)
  small_heads [] u q h = tt
  small_heads (t ∷ p) u q h = (
    subst (λ m. O.degree m ≤ 65535) (product_comm t.at u.at) h.0,
    small_heads p u q (IsSmall-right O (scaled K t q) (times K p (u ∷ q)) h.1),
  )

  small_tails : (p : Polynomial E) (u : Term E) (q : Polynomial E) → IsSmall O (times K p (u ∷ q)) → IsSmall O (times K p q)
  small_tails [] u q h = tt
  small_tails (t ∷ p) u q h =
      IsSmall-append O (scaled K t q) (times K p q) (IsSmall-left O (scaled K t q) (times K p (u ∷ q)) h.1)
      (small_tails p u q (IsSmall-right O (scaled K t q) (times K p (u ∷ q)) h.1))

  pub small_swap : (p q : Polynomial E) → IsSmall O (times K p q) → IsSmall O (times K q p)
  small_swap p [] h = tt
  small_swap p (u ∷ q) h = IsSmall-append O (scaled K u p) (times K q p) (small_heads p u q h) (small_swap p q (small_tails p u q h))

  pub small_scaled_at : (s : Term E) (p : Polynomial E) (i : ℕ) (t : Term E) → IsSmall O (scaled K s p) → i < length p → t ≡ get_or p i t →
      O.degree (product s.at t.at) ≤ 65535
  small_scaled_at s [] i t h l e = absurd (omega arith)
  small_scaled_at s (u ∷ p) zero t h l e = subst (λ x. O.degree (product s.at x.at) ≤ 65535) (sym e) h.0
  small_scaled_at s (u ∷ p) (suc i) t h l e = small_scaled_at s p i t h.1 (omega arith) e

  -- the degrees of a product are bounded by the sums of the bounds
  small_scaled : IsMonomialOrder O → (t : Term E) (q : Polynomial E) (d e : ℕ) → O.degree t.at ≤ d → AllAt (λ m. O.degree m ≤ e) q → d + e ≤ 65535 → IsSmall O (scaled K t q)
  small_scaled L t [] d e h k b = tt
  small_scaled L t (u ∷ q) d e h k b = (let s = L.degree_product t.at u.at in let a = k.0 in omega arith, small_scaled L t q d e h k.1 b)

  pub small_times : IsMonomialOrder O → (p q : Polynomial E) (d e : ℕ) → AllAt (λ m. O.degree m ≤ d) p → AllAt (λ m. O.degree m ≤ e) q → d + e ≤ 65535 → IsSmall O (times K p q)
  small_times L [] q d e h k b = tt
  small_times L (t ∷ p) q d e h k b =
      IsSmall-append O (scaled K t q) (times K p q) (small_scaled L t q d e h.0 k b) (small_times L p q d e h.1 k b)

  within_scaled : IsMonomialOrder O → (t : Term E) (q : Polynomial E) (d e : ℕ) → O.degree t.at ≤ d → AllAt (λ m. O.degree m ≤ e) q → AllAt (λ m. O.degree m ≤ d + e) (scaled K t q)
  within_scaled L t [] d e h k = tt
  within_scaled L t (u ∷ q) d e h k = (let s = L.degree_product t.at u.at in let a = k.0 in omega arith, within_scaled L t q d e h k.1)

  pub within_times : IsMonomialOrder O → (p q : Polynomial E) (d e : ℕ) → AllAt (λ m. O.degree m ≤ d) p → AllAt (λ m. O.degree m ≤ e) q → AllAt (λ m. O.degree m ≤ d + e) (times K p q)
  within_times L [] q d e h k = tt
  within_times L (t ∷ p) q d e h k =
      AllAt-append (λ m. O.degree m ≤ d + e) (scaled K t q) (times K p q) (within_scaled L t q d e h.0 k) (within_times L p q d e h.1 k)

module _ {E : Type 0} (K : FieldOps E) (F : IsField K) (O : MonomialOrder) where
  -- a multiple by a nonzero constant is decreasing
  pub IsDecreasing-multiple : (c : E) (p : Polynomial E) → IsValue K c → c ≢ K.zero → IsDecreasing K O p → IsDecreasing K O (scaled K (term_of [] c) p)
  IsDecreasing-multiple c [] v n h = tt
  IsDecreasing-multiple c (t ∷ p) v n h = (
    record {
      term = record { monomial = h.0.term.monomial; value = F.times_value c t.by };
      nonzero = times_not_zero K F c t.by (λ e. n (sym v ∙ e)) (λ e. h.0.nonzero (sym h.0.term.value ∙ e));
      above = below t.at p h.0.above;
    },
    IsDecreasing-multiple c p v n h.1,
  )
    where
      below : (m : Exponents) (q : Polynomial E) → IsBelow K O m q → IsBelow K O m (scaled K (term_of [] c) q)
      below m [] k = tt
      below m (u ∷ q) k = (k.0, below m q k.1)

  pub canonical_multiple : (c : E) (p : Polynomial E) → IsValue K c → c ≢ K.zero → IsCanonical K O p → IsCanonical K O (scaled K (term_of [] c) p)
  canonical_multiple c p v n h = record { decreasing = IsDecreasing-multiple c p v n h.decreasing; small = IsSmall-multiple K O c p h.small }

  module _ (L : IsMonomialOrder O) where
    -- products with a term keep the order
    pub scaled_below : (s t : Term E) (p : Polynomial E) → IsTerm K O.places s → IsTerm K O.places t → IsPoly K O.places p → IsBelow K O t.at p → IsBelow K O (product s.at t.at) (scaled K s p)
    scaled_below s t [] hs ht hp h = tt
    scaled_below s t (u ∷ p) hs ht hp h =
        (L.kept s.at u.at t.at hs.monomial.trimmed hp.0.monomial.trimmed ht.monomial.trimmed ∙ h.0, scaled_below s t p hs ht hp.1 h.1)

    -- the product with a nonzero term is decreasing
    pub IsDecreasing-scaled : (s : Term E) (p : Polynomial E) → IsTerm K O.places s → s.by ≢ K.zero → IsDecreasing K O p → IsDecreasing K O (scaled K s p)
    IsDecreasing-scaled s [] hs n h = tt
    IsDecreasing-scaled s (t ∷ p) hs n h = (
      record {
        term = record { monomial = IsMonomial-product O.places s.at t.at hs.monomial h.0.term.monomial; value = F.times_value s.by t.by };
        nonzero = times_not_zero K F s.by t.by (λ e. n (sym hs.value ∙ e)) (λ e. h.0.nonzero (sym h.0.term.value ∙ e));
        above = scaled_below s t p hs h.0.term (IsDecreasing_IsPoly K O p h.1) h.0.above;
      },
      IsDecreasing-scaled s p hs n h.1,
    )

-- the component of a canonical list is canonical
module _ {E : Type 0} (K : FieldOps E) (O : MonomialOrder) (d : ℕ) where
  below_test : (b : Bool) (m : Exponents) (t : Term E) (q : Polynomial E) → (O.compare t.at m ≡ Less) → IsBelow K O m q → IsBelow K O m (cond b (t ∷ q) q)
  below_test true m t q h k = (h, k)
  below_test false m t q h k = k

  IsBelow-component : (m : Exponents) (p : Polynomial E) → IsBelow K O m p → IsBelow K O m (component O d p)
  IsBelow-component m [] h = tt
  IsBelow-component m (t ∷ p) h = below_test (nat_eq (O.degree t.at) d) m t (component O d p) h.0 (IsBelow-component m p h.1)

  kept_test : (b : Bool) (t : Term E) (q : Polynomial E) → IsLeadTerm K O t q → O.degree t.at ≤ 65535 → IsCanonical K O q → IsCanonical K O (cond b (t ∷ q) q)
  kept_test true t q h l k = record { decreasing = (h, k.decreasing); small = (l, k.small) }
  kept_test false t q h l k = k

  pub canonical_component : (p : Polynomial E) → IsCanonical K O p → IsCanonical K O (component O d p)
  canonical_component [] h = h
  canonical_component (t ∷ p) h =
      kept_test (nat_eq (O.degree t.at) d) t (component O d p)
      record { term = h.decreasing.0.term; nonzero = h.decreasing.0.nonzero; above = IsBelow-component t.at p h.decreasing.0.above } h.small.0
      (canonical_component p record { decreasing = h.decreasing.1; small = h.small.1 })
