-- The S-polynomial of two members.
use Rattle.quotient_gb.proofs.Criterion.{reducer}
use Rattle.std.proofs.Common.{◌≡◌, ℕ, ◌≤◌, ◌<◌, length, get_or, sym, ◌∙◌, ap, subst, List, [], ◌∷◌, arith}
use Rattle.std.proofs.lemmas.List.{length-map}
use Rattle.std.specs.Prelude.{Contains, map, slice_index_or}
use Rattle.monomial_order.specs.Monomial.{IsMonomial, least_common_multiple, Exponents}
use Rattle.monomial_order.specs.MonomialOrder.{MonomialOrder}
use Rattle.monomial_order.specs.laws.Monomial.{IsMonomial-least_common_multiple}
use Rattle.monomial_order.specs.laws.Comparing.{degree_falls, degree_one}
use Rattle.monomial_order.specs.laws.Lists.{contains_left}
use Rattle.polynomials.specs.Polynomial.{Polynomial, Same, IsDecreasing, lead_monomial, degree_of}
use Rattle.polynomials.specs.Ideal.{InIdeal}
use Rattle.polynomials.specs.Subalgebra.{Presented, IsPresentation}
use Rattle.polynomials.specs.laws.Decreasing.{IsLead_first}
use Rattle.polynomials.specs.laws.Canonical.{IsLead_same}
use Rattle.polynomials.specs.laws.Ideal.{InIdeal_same}
use Rattle.quotient_gb.specs.Combinations.{AtMost, HasStandardRepresentation}
use Rattle.quotient_gb.specs.Criterion.{AreCofactors, s_polynomial, HasStandardSPolynomial}
use Rattle.quotient_gb.specs.declared.basis.Basis.{Basis}
use Rattle.quotient_gb.specs.declared.critical_pair.CriticalPair.{CriticalPair}
use Rattle.quotient_gb.specs.declared.degree_step.DegreeStep.{DegreeStep}
use Rattle.quotient_gb.specs.CriticalPairs.{pair_degree, IsCriticalPair}
use Rattle.quotient_gb.specs.DegreeStep.{HasLeads, all_members, IsStepAfter, ReducesPair}
use Rattle.quotient_gb.specs.IdealBasis.{AreMonicMembers}
use Rattle.quotient_gb.proofs.Bases.{lead_is, s_polynomial_inside}
use Rattle.quotient_gb.proofs.Combinations.{combines_same}
use Rattle.quotient_gb.proofs.Places.{lead_at, at_default}
use Rattle.quotient_gb.proofs.Multiples.{divides_left}
use Rattle.quotient_gb.proofs.Steps.{member}
use Rattle.quotient_gb.proofs.Pairs.{pair_below, same_cofactors}

-- what is read past the end of a list of pairs
abbrev pub no_pair : CriticalPair
no_pair = record { first = 0; second = 0; degree = 0 }

-- the degree of the least common multiple of the leads of two members
pub pair_degree_is : {E : Type 0} (O : MonomialOrder) (G : List (Polynomial E)) (i j : ℕ) →
    pair_degree O (map lead_monomial G) i j ≡ O.degree (least_common_multiple (lead_monomial (slice_index_or G i [])) (lead_monomial (slice_index_or G j [])))
pair_degree_is O G i j =
    ap (λ m. O.degree (least_common_multiple m (slice_index_or (map lead_monomial G) j []))) (lead_at G i) ∙
    ap (λ n. O.degree (least_common_multiple (lead_monomial (slice_index_or G i [])) n)) (lead_at G j)

module _ {E : Type 0} (P : Presented E) (H : IsPresentation P) (G : List (Polynomial E)) (members : AreMonicMembers P G)
    (g h : Polynomial E) (hg : Contains G g) (hh : Contains G h) (a : Polynomial E) (fa : IsDecreasing P.field P.order a)
    (D : (u v : Exponents) × AreCofactors u (lead_monomial g) v (lead_monomial h) × Same P.field a (s_polynomial P.field u g v h)) where
  top_monomial : IsMonomial P.order.places (least_common_multiple (lead_monomial g) (lead_monomial h))
  top_monomial = IsMonomial-least_common_multiple P.order.places (lead_monomial g) (lead_monomial h) (lead_is P H G members g hg) (lead_is P H G members h hh)

  pub pair_inside : InIdeal P.field P.order.places P.ideal a
  pair_inside =
      InIdeal_same P.field H.field P.order.places P.ideal (s_polynomial P.field D.0 g D.1 h) a (λ m. sym (D.3 m))
      (s_polynomial_inside P H G members D.0 D.1 g h
      (divides_left D.0 (lead_monomial g) P.order.places (subst (IsMonomial P.order.places) (sym D.2.left) top_monomial) D.2.left_trimmed)
      (divides_left D.1 (lead_monomial h) P.order.places (subst (IsMonomial P.order.places) (sym D.2.right) top_monomial) D.2.right_trimmed) hg hh)

  pub pair_degree_small : (d : ℕ) → P.order.degree (least_common_multiple (lead_monomial g) (lead_monomial h)) ≡ d → degree_of P.order a ≤ d
  pair_degree_small d e = by_list a fa D.3
    where
      by_list : (a : Polynomial E) → IsDecreasing P.field P.order a → Same P.field a (s_polynomial P.field D.0 g D.1 h) → degree_of P.order a ≤ d
      by_list [] f s = let z = degree_one P.order H.order in omega arith
      by_list (t ∷ w) f s =
          let l = IsLead_same P.field H.field P.order H.order (t ∷ w) (s_polynomial P.field D.0 g D.1 h) t.at s (IsLead_first P.field H.field P.order H.order t w f) in
          let lt = pair_below P.field H.field P.order H.order G (reducer P H G members) g h hg hh D.0 D.1 D.2 t.at l.nonzero in
          let q = degree_falls P.order H.order t.at (least_common_multiple (lead_monomial g) (lead_monomial h)) lt in omega arith

  pub pair_reduced : (G' : List (Polynomial E)) → HasStandardRepresentation P.field P.order G' a → HasStandardSPolynomial P.field P.order G' g h
  pair_reduced G' r = same_cofactors P.field H.field P.order H.order G (reducer P H G members) g h hg hh (HasStandardRepresentation P.field P.order G') D.0 D.1 D.2 here
    where
      here : HasStandardRepresentation P.field P.order G' (s_polynomial P.field D.0 g D.1 h)
      here M l = combines_same P.field H.field P.order H.order G' (AtMost P.order M) a (s_polynomial P.field D.0 g D.1 h) D.3
          (r M (IsLead_same P.field H.field P.order H.order (s_polynomial P.field D.0 g D.1 h) a M (λ m. sym (D.3 m)) l))

-- the two members of a critical pair, x and y
module _ {F E : Type 0} (P : Presented E) (b : Basis F E) (leads : HasLeads b) (w : CriticalPair) (hw : IsCriticalPair P.order b.leads.items w) where
  count : length b.leads.items ≡ length b.members.items
  count = ap length leads ∙ length-map b.members.items lead_monomial

  pub second_index : w.second < length b.members.items
  second_index = let e = count in let l = hw.within in omega arith

  pub first_index : w.first < length b.members.items
  first_index = let e = second_index in let l = hw.order in omega arith

  module _ (x y : Polynomial E) (ix : get_or b.members.items w.first x ≡ x) (iy : get_or b.members.items w.second y ≡ y) where
    pub first_is : get_or b.members.items w.first [] ≡ x
    first_is = at_default b.members.items w.first x [] first_index ix

    pub second_is : get_or b.members.items w.second [] ≡ y
    second_is = at_default b.members.items w.second y [] second_index iy

    pub top_degree : w.degree ≡ P.order.degree (least_common_multiple (lead_monomial x) (lead_monomial y))
    top_degree = hw.degree ∙ (ap (λ ms. pair_degree P.order ms w.first w.second) leads ∙ (pair_degree_is P.order b.members.items w.first w.second ∙
        (ap (λ z. P.order.degree (least_common_multiple (lead_monomial z) (lead_monomial (get_or b.members.items w.second [])))) first_is ∙ ap (λ z. P.order.degree (least_common_multiple (lead_monomial x) (lead_monomial z))) second_is)))

-- and in a step
module _ {F E : Type 0} (P : Presented E) (H : IsPresentation P) (b : Basis F E) (s : DegreeStep F E) (h : IsStepAfter P b s) (w : CriticalPair) (hw : IsCriticalPair P.order b.leads.items w) where
  leads_are : HasLeads b
  leads_are = h.before.2.leads

  pub second_within : w.second < length b.members.items
  second_within = second_index P b leads_are w hw

  pub first_within : w.first < length b.members.items
  first_within = first_index P b leads_are w hw

  module _ (x y : Polynomial E) (ix : get_or b.members.items w.first x ≡ x) (iy : get_or b.members.items w.second y ≡ y) where
    pub first_in : Contains (all_members b s) x
    first_in = contains_left b.members.items s.found.members.items x (w.first, first_within, ix)

    pub second_in : Contains (all_members b s) y
    second_in = contains_left b.members.items s.found.members.items y (w.second, second_within, iy)

    pub lcm_degree : w.degree ≡ P.order.degree (least_common_multiple (lead_monomial x) (lead_monomial y))
    lcm_degree = top_degree P b leads_are w hw x y ix iy

    module _ (a : Polynomial E) (fa : IsDecreasing P.field P.order a) (D : (u v : Exponents) × AreCofactors u (lead_monomial x) v (lead_monomial y) × Same P.field a (s_polynomial P.field u x v y)) where
      pub inside : InIdeal P.field P.order.places P.ideal a
      inside = pair_inside P H (all_members b s) (member P H b s h) x y first_in second_in a fa D

      pub at_most : w.degree ≡ s.degree → degree_of P.order a ≤ s.degree
      at_most e = pair_degree_small P H (all_members b s) (member P H b s h) x y first_in second_in a fa D s.degree (sym lcm_degree ∙ e)

      pub reduced : (s' : DegreeStep F E) → HasStandardRepresentation P.field P.order (all_members b s') a → ReducesPair P b s' w
      reduced s' r =
          subst (λ z. HasStandardSPolynomial P.field P.order (all_members b s') z (get_or b.members.items w.second [])) (sym (first_is P b leads_are w hw x y ix iy))
          (subst (HasStandardSPolynomial P.field P.order (all_members b s') x) (sym (second_is P b leads_are w hw x y ix iy)) (pair_reduced P H (all_members b s) (member P H b s h) x y first_in second_in a fa D (all_members b s') r))
