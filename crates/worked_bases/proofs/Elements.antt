-- Generators with their letters, letters of elements and what is made of them.
use Rattle.std.proofs.Common.{◌≡◌, ◌≢◌, ℕ, ◌+◌, ◌-◌, ◌<◌, ◌≤◌, refl, sym, ◌∙◌, ap, subst, ⊎_elim, List, [], ◌∷◌, ◌++◌, length, get_or, append_assoc, length-append, nat_eq, nat_lt, arith}
use Rattle.std.proofs.lemmas.Bool.Decides.{nat_tests}
use Rattle.std.proofs.lemmas.List.{get_or_append_left, get_or_past, get_or-map, length-map, map-append}
use Rattle.std.proofs.lemmas.List.Elements.{All-push}
use Rattle.std.specs.Prelude.{All, IsTrue, map}
use Rattle.word_field.specs.Residues.{residues}
use Rattle.word_field.specs.declared.WordField.{WordField}
use Rattle.monomial_order.specs.MonomialOrder.{MonomialOrder}
use Rattle.monomial_order.specs.declared.weight_order.WeightOrder.{WeightOrder}
use Rattle.monomial_order.specs.declared.word_order.WordOrder.{WordOrder}
use Rattle.monomial_order.specs.laws.Comparing.{le_or_not}
use Rattle.monomial_order.specs.laws.Monomial.{weighted_nil}
use Rattle.polynomials.specs.Polynomial.{Polynomial, coefficient, degree_of, AllAt}
use Rattle.polynomials.specs.laws.Degrees.{all_found}
use Rattle.poly_core.specs.Presentation.{generator_degree, weight_order_of}
use Rattle.poly_core.specs.declared.presentations.Presentation.{Presentation}
use Rattle.witness.specs.Tracking.{by_order, letter_poly, values_of, HasDegreesUpTo, HasPlaces, IsCanonicalPair, IsGradedPair, IsTrackedElement, IsWitnessOrder, Tracks}
use Rattle.witness.specs.declared.tracked.Tracked.{Tracked}
use Rattle.witness.specs.laws.Letters.{by_laws, by_places, by_small, element_weight, letter_uses_none}
use Rattle.worked_rows.specs.Rings.{IsRing, IsIn, IsLowIn}
use Rattle.worked_rows.specs.laws.Generators.{low_generators}
use Rattle.polynomial_text.specs.Degrees.{IsLow}
use Rattle.worked_bases.specs.Elements.{IsBasis, IsGeneratorElement, IsMade, IsNext, IsPair, UsesBelow}
use Rattle.worked_bases.specs.Rings.{of_ring}

pub same_test : (a b : ℕ) → IsTrue (nat_eq a b) → a ≡ b
same_test a b h = grind (arith, nat_tests)

pub inside_test : (a b : ℕ) → IsTrue (nat_lt a b) → a < b
inside_test a b h = grind (arith, nat_tests)

pub positive_test : (d : ℕ) → IsTrue (nat_lt 0 d) → 0 < d
positive_test d h = grind (arith, nat_tests)

module _ (p : Presentation WordField WeightOrder ℕ) (V : IsRing p) where
  same_degree : (f : Polynomial ℕ) → degree_of (weight_order_of p.order) f ≢ 0 → generator_degree (weight_order_of p.order) f ≡ degree_of (weight_order_of p.order) f
  same_degree [] h = absurd (h (weighted_nil p.order.weights.items))
  same_degree (u ∷ f) h = refl

  module _ (n : ℕ) (first : 1 ≤ n) (last : n ≤ length p.generators.items) (t : Tracked WordField ℕ)
      (value : t.value ≡ get_or p.generators.items (n - 1) []) where
    pub generator_in : IsIn p t.value × IsLowIn p t.value
    generator_in = subst (λ f. IsIn p f × IsLowIn p f) (sym value)
        (low_generators (residues p.field.modulus) V.presentation.field (weight_order_of p.order) V.presentation.order p.generators.items (n - 1) V.generators.each)

    pub generator_element : degree_of (weight_order_of p.order) t.value ≢ 0 → t.by ≡ letter_poly (residues p.field.modulus) (n - 1) → ((S : List (Polynomial ℕ)) → Tracks (of_ring p) S t) →
        ((w : WordOrder) → IsRing p → HasPlaces n w → IsCanonicalPair (residues p.field.modulus) (weight_order_of p.order) (by_order w) t) →
        ((S : List (Polynomial ℕ)) (w : WordOrder) → IsRing p → IsWitnessOrder (of_ring p) S w →
        IsGradedPair (residues p.field.modulus) (weight_order_of p.order) (by_order w) (generator_degree (weight_order_of p.order) (get_or p.generators.items (n - 1) [])) t) → IsGeneratorElement p t
    generator_element nonzero by tracks canonical graded = record {
      value = generator_in.0;
      low = generator_in.1;
      each = λ S w h. record {
        tracks = tracks S;
        canonical = canonical w V (let a = by_places (of_ring p) S w h in omega arith);
        graded = subst (λ d. IsGradedPair (residues p.field.modulus) (weight_order_of p.order) (by_order w) d t)
            (ap (generator_degree (weight_order_of p.order)) (sym value) ∙ same_degree t.value nonzero) (graded S w V h);
        lower = λ m k j x. absurd (x (letter_uses_none (residues p.field.modulus) V.presentation.field (length p.generators.items) (n - 1) (omega arith) m
            (λ z. k (ap (λ q. coefficient (residues p.field.modulus) q m) by ∙ z)) j));
      };
    }

  module _ (S : List (Polynomial ℕ)) (w : WordOrder) (h : IsWitnessOrder (of_ring p) S w) where
    -- no element has a greater degree than its letter
    element_degree : (i : ℕ) → degree_of (weight_order_of p.order) (get_or S i []) ≤ get_or w.s_degrees.items (length p.generators.items + i) 0
    element_degree i =
        ⊎_elim
        (λ beyond. let e = ap (degree_of (weight_order_of p.order)) (get_or_past S i [] beyond) ∙ weighted_nil p.order.weights.items in omega arith)
        (λ inside. let e = sym (ap (λ ws. get_or (ws ++ w.s_degrees.items) (length p.generators.items + i) 0) h.no_x) ∙ element_weight (of_ring p) S w h i (omega arith) in omega arith)
        (le_or_not (length S) i)

  pub next_element : (w : WordOrder) (fs : List (Polynomial ℕ)) (d : ℕ) (t : Tracked WordField ℕ) → IsPair p w t → IsMade p w fs d t →
      degree_of (weight_order_of p.order) t.value ≡ d → AllAt (UsesBelow w.s_degrees.items d) t.by → IsNext p w fs d t
  next_element w fs d t pair made e below = record {
    degree = e;
    element = λ more h. record {
      tracks = made.tracks more h;
      canonical = pair;
      graded = subst (λ n. IsGradedPair (residues p.field.modulus) (weight_order_of p.order) (by_order w) n t) (sym e) (made.graded more h);
      lower = λ m k i x.
          let a = all_found (residues p.field.modulus) V.presentation.field (by_order w) (by_laws w) (UsesBelow w.s_degrees.items d) t.by below m k (length p.generators.items + i) x in
          let b = element_degree (fs ++ more) w h i in
          omega arith;
    };
  }

  pub letter_low : (w : WordOrder) (i : ℕ) → HasPlaces (i + 1) w → (h : Polynomial ℕ) → h ≡ letter_poly (residues p.field.modulus) i → IsLow (by_order w) h
  letter_low w i l h e = subst (IsLow (by_order w)) (sym e) (by_small w i (omega arith), tt)

  module _ (s : List (Tracked WordField ℕ)) where
    -- an element of a list stands in each longer list
    module _ (i : ℕ) (inside : i < length s) (x : Tracked WordField ℕ) (is : x ≡ get_or s i x) (more : List (Polynomial ℕ)) where
      pub value_at : get_or (values_of s ++ more) (i + 1 - 1) [] ≡ x.value
      value_at =
          ap (λ j. get_or (values_of s ++ more) j []) (let e : i + 1 - 1 ≡ i = omega arith in e) ∙
          (get_or_append_left (values_of s) more [] i (let n = length-map s (λ t. t.value) in omega arith) ∙
          (get_or-map (λ t. t.value) s i x [] inside ∙ ap (λ t. t.value) (sym is)))

      pub long_enough : i + 1 ≤ length (values_of s ++ more)
      long_enough = let n = length-map s (λ t. t.value) in let m = length-append (values_of s) more in omega arith

    module _ (t : Tracked WordField ℕ) (d : ℕ) (degree : degree_of (weight_order_of p.order) t.value ≡ d) where
      pub push_order : (w v : WordOrder) → IsWitnessOrder (of_ring p) (values_of s) w → v.x_degrees.items ≡ w.x_degrees.items → v.s_degrees.items ≡ w.s_degrees.items ++ d ∷ [] →
          IsWitnessOrder (of_ring p) (values_of (s ++ t ∷ [])) v
      push_order w v h ex es = record {
        no_x = ex ∙ h.no_x;
        degrees = es ∙ (ap (λ ds. ds ++ d ∷ []) h.degrees ∙
            (append_assoc (map (generator_degree (weight_order_of p.order)) p.generators.items) (map (degree_of (weight_order_of p.order)) (values_of s)) (d ∷ []) ∙
            ap (λ ds. map (generator_degree (weight_order_of p.order)) p.generators.items ++ ds)
            (sym (ap (map (degree_of (weight_order_of p.order))) (map-append (λ t. t.value) s (t ∷ [])) ∙
            (map-append (degree_of (weight_order_of p.order)) (values_of s) (t.value ∷ []) ∙ ap (λ n. map (degree_of (weight_order_of p.order)) (values_of s) ++ n ∷ []) degree)))));
      }

    pub push_basis : (t : Tracked WordField ℕ) (w : WordOrder) (d : ℕ) → All (IsGeneratorElement p) s → IsNext p w (values_of s) d t →
        IsWitnessOrder (of_ring p) (values_of (s ++ t ∷ [])) w → IsBasis p w (s ++ t ∷ [])
    push_basis t w d each next h = record {
      order = h;
      elements = All-push (IsTrackedElement (of_ring p) (by_order w) (values_of (s ++ t ∷ []))) s t
          (λ i z l. let g = each i z l in g.each (values_of (s ++ t ∷ [])) w h)
          (subst (λ S. IsWitnessOrder (of_ring p) S w → IsTrackedElement (of_ring p) (by_order w) S t) (sym (map-append (λ t. t.value) s (t ∷ []))) (next.element (t.value ∷ [])) h);
    }

  -- the generators and the next element, in the order with its letter
  pub longer_basis : (s : List (Tracked WordField ℕ)) (t : Tracked WordField ℕ) (d : ℕ) (w v : WordOrder) (longer : List (Tracked WordField ℕ)) →
      All (IsGeneratorElement p) s → IsWitnessOrder (of_ring p) (values_of s) w → v.x_degrees.items ≡ w.x_degrees.items →
      v.s_degrees.items ≡ w.s_degrees.items ++ d ∷ [] → IsNext p v (values_of s) d t → longer ≡ s ++ t ∷ [] → IsBasis p v longer
  longer_basis s t d w v longer each order ex es next e =
      subst (IsBasis p v) (sym e) (push_basis s t v d each next (push_order s t d next.degree w v order ex es))

  pub low_degrees : (w : WordOrder) (h : Polynomial ℕ) → IsLow (by_order w) h → HasDegreesUpTo (residues p.field.modulus) (by_order w) 30000 h
  low_degrees w h low m n = all_found (residues p.field.modulus) V.presentation.field (by_order w) (by_laws w) (λ m. let W : MonomialOrder = by_order w in W.degree m ≤ 30000) h low m n
