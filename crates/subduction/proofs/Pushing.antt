-- One more element keeps those before it.
use Rattle.std.proofs.Common.{◌≡◌, ◌≢◌, ℕ, zero, suc, ◌+◌, ◌<◌, ◌≤◌, sym, ◌∙◌, ap, subst, List, [], ◌∷◌, ◌++◌, length, get_or, append_assoc, length-append, arith, ⊎_elim}
use Rattle.std.specs.Prelude.{map, All, Contains}
use Rattle.std.proofs.lemmas.List.{get_or_append_left, map-append}
use Rattle.std.proofs.lemmas.List.Elements.{All-append}
use Rattle.monomial_order.specs.Monomial.{Exponents, exponent, IsMonomial}
use Rattle.monomial_order.specs.MonomialOrder.{MonomialOrder}
use Rattle.monomial_order.specs.laws.Comparing.{le_or_not}
use Rattle.monomial_order.specs.laws.Monomial.{exponent_past}
use Rattle.word_laws.specs.Words.{image_of, IsSWord, Letters}
use Rattle.polynomials.specs.Polynomial.{Polynomial, degree_of, lead_monomial, IsCanonical, IsPoly}
use Rattle.polynomials.specs.Value.{value}
use Rattle.polynomials.specs.Ideal.{Congruent}
use Rattle.polynomials.specs.Subalgebra.{Presented, IsPresentation}
use Rattle.polynomials.specs.laws.Coefficients.{decreasing_leads, found_monomial}
use Rattle.polynomials.specs.laws.Decreasing.{IsDecreasing_IsPoly}
use Rattle.polynomials.specs.laws.Terms.{AllAt-map, poly_monomials}
use Rattle.poly_core.specs.Presentation.{generator_degree}
use Rattle.subalgebra_laws.specs.Statements.{ForMonicElements, ProductsAreImages}
use Rattle.subalgebra_laws.specs.Words.{letters}
use Rattle.subalgebra_laws.specs.laws.Fronts.{value_front}
use Rattle.toric_ideal.specs.Listing.{IsListing, IsNewLead}
use Rattle.witness.specs.Tracking.{by_order, values_of, Tracks, UsesLower}
use Rattle.witness.specs.declared.tracked.Tracked.{Tracked}
use Rattle.witness.specs.laws.Letters.{by_laws, by_places}
use Rattle.witness.specs.laws.Longer.{canonical_longer, graded_longer}
use Rattle.subduction.specs.Basis.{BasisState, IsBasisElement, IsBasisOf, IsNewElement}
use Rattle.subduction.proofs.Elements.{degree_is, monic_elements, places_is, standard_not_zero}

module _ {F E : Type 0} (P : Presented E) (H : IsPresentation P) (b : BasisState F E) (B : IsBasisOf P b) where
  open P use {field as K, order as O, generators as fs}
  open H use {field as F', order as M}

  abbrev S : List (Polynomial E)
  S = values_of b.elements

  module _ (b' : BasisState F E) (u : Tracked F E) (elements : b'.elements ≡ b.elements ++ u ∷ []) (none : b'.by_order.x_degrees.items ≡ [])
      (more : b'.by_order.s_degrees.items ≡ b.by_order.s_degrees.items ++ degree_of O u.value ∷ []) where
    abbrev before : MonomialOrder
    before = by_order b.by_order

    abbrev S' : List (Polynomial E)
    S' = values_of b'.elements

    values_longer : S' ≡ S ++ u.value ∷ []
    values_longer = ap values_of elements ∙ map-append (λ (t : Tracked F E). t.value) b.elements (u ∷ [])

    places : before.places ≡ length fs + length S
    places = by_places P S b.by_order B.by_order

    -- what a witness over the elements tracks, it tracks with one more
    pub tracks_longer : (t : Tracked F E) → IsCanonical K before t.by → Tracks P S t → Tracks P S' t
    tracks_longer t c h =
        subst (λ T. Congruent K O.places P.ideal t.value (value K t.by (fs ++ T))) (sym values_longer)
        (subst (Congruent K O.places P.ideal t.value)
        (sym (ap (value K t.by) (sym (append_assoc fs S (u.value ∷ []))) ∙
        value_front K t.by (fs ++ S) (u.value ∷ [])
        (AllAt-map (IsMonomial (length (fs ++ S))) (λ m. length m ≤ length (fs ++ S)) (λ m h. h.within) t.by
        (poly_monomials K (length (fs ++ S)) t.by
        (subst (λ n. IsPoly K n t.by) (places ∙ sym (length-append fs S)) (IsDecreasing_IsPoly K before t.by c.decreasing)))))) h)

    pub lower_longer : (t : Tracked F E) → IsCanonical K before t.by → UsesLower P S t → UsesLower P S' t
    lower_longer t c h m n i x =
        let within = found_monomial K F' before (by_laws b.by_order) t.by (IsDecreasing_IsPoly K before t.by c.decreasing) m n in
        let l : i < length S = inside m within i x in
        subst (λ s. degree_of O s < degree_of O t.value) (sym (ap (λ T. get_or T i []) values_longer ∙ get_or_append_left S (u.value ∷ []) [] i l)) (h m n i x)
      where
        inside : (m : Exponents) → IsMonomial before.places m → (i : ℕ) → exponent m (length fs + i) ≢ 0 → i < length S
        inside m w i x =
            ⊎_elim (λ l. absurd (x (exponent_past m (length fs + i) l))) (λ n. let a = w.within in let p = places in omega (arith, n)) (le_or_not (length m) (length fs + i))

    pub element_longer : (t : Tracked F E) → IsBasisElement P b t → IsBasisElement P b' t
    element_longer t e =
        let k = e.tracked in
        let no_x = (B.by_order).no_x in
        record {
          tracked = record {
            tracks = tracks_longer t k.canonical.by k.tracks;
            canonical = record { value = k.canonical.value; by = canonical_longer b.by_order b'.by_order (degree_of O u.value ∷ []) no_x none more K F' t.by k.canonical.by };
            graded = record {
              value = k.graded.value;
              by = graded_longer b.by_order b'.by_order (degree_of O u.value ∷ []) no_x none more K F' t.by k.canonical.by (degree_of O t.value) k.graded.by;
            };
            lower = lower_longer t k.canonical.by k.lower;
          };
          monic = e.monic;
          standard = e.standard;
        }

    -- the basis with the element at the end
    pub pushed_basis : IsBasisElement P b' u → degree_of O u.value ≡ b.words.degree → b'.quotient ≡ b.quotient → IsListing b'.words →
        b'.words.letters ≡ (let L : Letters = record { degrees = b.words.letters.degrees; leads = b.words.letters.leads ++ lead_monomial u.value ∷ [] } in L) →
        b'.words.zeros ≡ b.words.zeros → b'.words.degree ≡ b.words.degree → IsBasisOf P b'
    pushed_basis e d q L ls z w = record {
      quotient = subst (Rattle.quotient_gb.specs.Quotient.IsQuotientOf P) (sym q) B.quotient;
      words = L;
      letters = ls ∙ (ap (λ (K : Letters). let L : Letters = record { degrees = K.degrees; leads = K.leads ++ lead_monomial u.value ∷ [] } in L) B.letters ∙
          ap (λ ms. let L : Letters = record { degrees = (letters P S).degrees; leads = ms } in L)
          (sym (ap (map lead_monomial) values_longer ∙ map-append lead_monomial S (u.value ∷ []))));
      zeros = λ m. (
        λ k. let r = (B.zeros m).0 (subst (λ ms. Contains ms m) z k) in let l = r.1 in (subst (λ (x : Rattle.quotient_gb.specs.Quotient.QuotientState E). Contains x.leads m) (sym q) r.0, omega arith),
        λ k. let l = k.1 in subst (λ ms. Contains ms m) (sym z) ((B.zeros m).1 (subst (λ (x : Rattle.quotient_gb.specs.Quotient.QuotientState E). Contains x.leads m) q k.0, omega arith)),
      );
      degree = let l = B.degree in let e = ap (λ (x : Rattle.quotient_gb.specs.Quotient.QuotientState E). x.degree) q in omega arith;
      elements = subst (All (IsBasisElement P b')) (sym elements) (All-append (IsBasisElement P b') b.elements (u ∷ []) (λ i t l. element_longer (get_or b.elements i t) (B.elements i t l)) (only e));
      parts = (
        B.parts.0,
        B.parts.1 ++ u ∷ [],
        record {
          whole = elements ∙ (ap (λ ts. ts ++ u ∷ []) (B.parts.2).whole ∙ append_assoc B.parts.0 B.parts.1 (u ∷ []));
          lower_less = λ i t l. let a = (B.parts.2).lower_less i t l in omega arith;
          last_equal = All-append (λ (t : Tracked F E). degree_of O t.value ≡ b'.words.degree) B.parts.1 (u ∷ []) (λ i t l. (B.parts.2).last_equal i t l ∙ sym w) (at_u (d ∙ sym w));
        },
      );
      by_order = record {
        no_x = none;
        degrees = more ∙ (ap (λ xs. xs ++ degree_of O u.value ∷ []) (B.by_order).degrees ∙
            (append_assoc (map (generator_degree O) fs) (map (degree_of O) S) (degree_of O u.value ∷ []) ∙
            ap (λ xs. map (generator_degree O) fs ++ xs) (sym (ap (map (degree_of O)) values_longer ∙ map-append (degree_of O) S (u.value ∷ [])))));
      };
    }
      where
        only : IsBasisElement P b' u → All (IsBasisElement P b') (u ∷ [])
        only e zero t l = e
        only e (suc i) t l = absurd (omega arith)

        at_u : degree_of O u.value ≡ b'.words.degree → All (λ (t : Tracked F E). degree_of O t.value ≡ b'.words.degree) (u ∷ [])
        at_u e zero t l = e
        at_u e (suc i) t l = absurd (omega arith)

  -- the lead of a new element may be the next lead
  pub is_new_lead : ForMonicElements E ProductsAreImages → (t : Tracked F E) → IsNewElement P b t → IsNewLead b.words (lead_monomial t.value)
  is_new_lead law t h =
      let m = lead_monomial t.value in
      let n = (decreasing_leads K F' O M t.value h.canonical.value.decreasing h.nonzero).nonzero in
      let s = h.reduced m n in
      record {
        monomial = subst (λ k. IsMonomial k m) (sym (places_is P H b B)) s.0.monomial;
        degree = degree_is P H b B m s.0.monomial ∙ h.graded.value m n;
        standard = standard_not_zero P H b B m s.0;
        fresh = λ x w i. s.1 ((law P S H (monic_elements P H b B) m).1 (x, subst (λ L. IsSWord L x) B.letters w, subst (λ L. image_of L x ≡ m) B.letters i));
      }
