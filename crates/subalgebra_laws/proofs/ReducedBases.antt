-- Over a reduced basis each member of the subalgebra is a combination; so a basis can be checked element by element,
-- and if nothing new comes after a degree, the reduced basis to that degree is one to every degree.
use Rattle.std.proofs.Common.{◌≡◌, ◌≢◌, ℕ, ◌≤◌, ◌↔◌, refl, sym, ◌∙◌, ap, subst, List, [], ◌++◌, ⊎_elim, arith}
use Rattle.std.specs.Prelude.{map}
use Rattle.std.specs.declared.cmp.Ordering.TheVariants.{Less}
use Rattle.monomial_order.specs.laws.Comparing.{degree_falls, equal_or_not}
use Rattle.monomial_order.specs.laws.Rank.{IsWithin, below_induction}
use Rattle.word_laws.specs.Words.{word_order_of, image_of}
use Rattle.word_laws.specs.laws.Reducible.{least_word, least_s_word}
use Rattle.polynomials.specs.Polynomial.{Polynomial, coefficient, times, minus, constant, IsPoly, IsLead, lead_monomial}
use Rattle.polynomials.specs.Subalgebra.{Presented, IsPresentation, InSubalgebra, LeadsIdeal, LeadsSubalgebra, IsStandard, IsElement, IsGenerated, IsReducedBasis, HasDegreesTo, IsDecidedTo}
use Rattle.polynomials.specs.laws.Ring.{coefficient_value}
use Rattle.polynomials.specs.laws.Canonical.{zero_or_lead}
use Rattle.polynomials.specs.laws.Ideal.{IsPoly-times}
use Rattle.polynomials.specs.laws.Congruence.{congruent_member}
use Rattle.polynomials.specs.laws.Membership.{sub_times, sub_congruent, sub_minus}
use Rattle.subalgebra_laws.specs.Words.{letters, word_value, IsMinimalWord, IsCombination}
use Rattle.subalgebra_laws.specs.Bases.{AreMonicElements, HasCombinationsTo, IsClosedAt, IsStandardElement, IsCheckedElement, IsCheckedBasis}
use Rattle.subalgebra_laws.specs.Statements.{LowMembersAreCombinations}
use Rattle.polynomials.specs.laws.Coefficients.{constant_poly, minus_poly, minus_back, found_monomial}
use Rattle.subalgebra_laws.proofs.Nonzero.{lowered, cancelling}
use Rattle.subalgebra_laws.proofs.MonicProducts.{monic_lead}
use Rattle.subalgebra_laws.proofs.Letters.{word_monic, word_degree, are_letters}
use Rattle.subalgebra_laws.proofs.Combinations.{combination_congruent, combination_same, combination_zero, combination_plus, combination_multiple, combination_word}
use Rattle.subalgebra_laws.proofs.Decisions.{closed_decided}
use Rattle.subalgebra_laws.proofs.Generated.{images_generated, word_sub, generated_leads}
use Rattle.subalgebra_laws.specs.laws.Members.{sub_zero, sub_constant, generator_sub, generator_poly}
use Rattle.subalgebra_laws.proofs.Criterion.{leads_generated}

module _ {E : Type 0} (P : Presented E) (H : IsPresentation P) where
  open P use {field as K, order as O}
  open H use {field as F, order as L}

  pub basis_monic : (c : ℕ) (S : List (Polynomial E)) → IsReducedBasis P c S → AreMonicElements P S
  basis_monic c S red s k = let e = red.elements s k in record { decreasing = e.decreasing; monic = e.monic; positive = e.at_least }

  -- a monomial of the value of a word has at most its degree
  pub word_low : (S : List (Polynomial E)) → AreMonicElements P S → (c : ℕ) (u : List ℕ) → (word_order_of (letters P S)).degree u ≤ c → HasDegreesTo P c (word_value P S u)
  word_low S HS c u le n k =
      let m = image_of (letters P S) u in
      let e = word_degree P H S HS u in
      ⊎_elim (λ same. let z : O.degree n ≡ O.degree m = ap O.degree same in omega arith)
      (λ ne. let z = degree_falls O L n m ((word_monic P H S HS u).greatest n k ne) in omega arith) (equal_or_not n m)

  -- the leads of the subalgebra that S generates are exactly the standard products of leads of S
  pub leads_exactly : (c : ℕ) (S : List (Polynomial E)) → IsReducedBasis P c S → (m : List ℕ) → (LeadsSubalgebra P m → IsGenerated (map lead_monomial S) m) → LeadsSubalgebra P m ↔ (IsStandard P m × IsGenerated (map lead_monomial S) m)
  leads_exactly c S red m generated = ((λ h. (h.standard, generated h)), (λ k. generated_leads P H S (basis_monic c S red) (λ s i. (red.elements s i).inside) m k.0 k.1))

  -- an element without its tail, and with it again
  without_tail : (c d : ℕ) (s : Polynomial E) → O.degree (lead_monomial s) ≤ d → IsElement P c s → IsStandardElement P d s
  without_tail c d s le e = record {
    decreasing = e.decreasing;
    inside = e.inside;
    monic = e.monic;
    homogeneous = e.homogeneous;
    at_least = e.at_least;
    at_most = le;
    standard = e.standard;
  }

  with_tail : (c : ℕ) (s : Polynomial E) → IsStandardElement P c s → ((m : List ℕ) → coefficient K s m ≢ K.zero → m ≢ lead_monomial s → ¬ LeadsSubalgebra P m) → IsElement P c s
  with_tail c s e tail = record {
    decreasing = e.decreasing;
    inside = e.inside;
    monic = e.monic;
    homogeneous = e.homogeneous;
    at_least = e.at_least;
    at_most = e.at_most;
    standard = e.standard;
    tail = tail;
  }

  pub element_checked : (c d : ℕ) (S : List (Polynomial E)) (s : Polynomial E) → O.degree (lead_monomial s) ≤ d → IsElement P c s →
      ((m : List ℕ) → coefficient K s m ≢ K.zero → m ≢ lead_monomial s → ¬ IsGenerated (map lead_monomial S) m) → IsCheckedElement P d S s
  element_checked c d S s le e tail = record { element = without_tail c d s le e; tail = tail }

  pub element_moved : (c d : ℕ) (s : Polynomial E) → O.degree (lead_monomial s) ≤ d → IsElement P c s → IsElement P d s
  element_moved c d s le e = with_tail d s (without_tail c d s le e) e.tail

  module _ (c : ℕ) (S : List (Polynomial E)) (dec : IsDecidedTo P c) (red : IsReducedBasis P c S) where
    HS : AreMonicElements P S
    HS = basis_monic c S red

    -- a combination in the subalgebra with the lead m
    record HasLeadAt (m : List ℕ) (b : Polynomial E) : Type 0 where
      poly : IsPoly K O.places b
      inside : InSubalgebra P b
      combination : IsCombination P S b
      leads : IsLead K O b m

    of_ideal : (m : List ℕ) (l : LeadsIdeal P m) → HasLeadAt m l.member
    of_ideal m l =
        let zero = congruent_member K F O.places P.ideal l.member l.inside in
        record { poly = l.poly; inside = sub_congruent P H [] l.member (sub_zero P H) zero; combination = combination_congruent P H S HS [] l.member zero (combination_zero P H S HS); leads = l.leads }

    -- the value of the least word of a standard lead
    of_word : (m : List ℕ) → LeadsSubalgebra P m → O.degree m ≤ c → (b : Polynomial E) × HasLeadAt m b
    of_word m h le =
        let w = images_generated P H S HS m (red.generates m h le) in
        let v = least_word (letters P S) (are_letters P H S HS) w.0 w.1.0 in
        let at : image_of (letters P S) v.0 ≡ m = v.1.image ∙ w.2 in
        let sv = least_s_word (letters P S) (are_letters P H S HS) (image_of (letters P S) w.0) w.0 v.0 v.1 w.1 refl in
        let mono = word_monic P H S HS v.0 in (
          word_value P S v.0,
          record {
            poly = mono.poly;
            inside = word_sub P H S HS (λ s k. (red.elements s k).inside) v.0 sv;
            combination = combination_word P H S HS v.0 sv (λ r. ⊎_elim (λ l. h.standard.no_lead (subst (LeadsIdeal P) at l)) (λ u. v.1.least u.0 u.1) r);
            leads = subst (IsLead K O (word_value P S v.0)) at (monic_lead K F O L (word_value P S v.0) (image_of (letters P S) v.0) mono);
          },
        )

    -- a member with the lead m: a multiple of such a combination is taken away
    member_combination : (m : List ℕ) → IsWithin O L c m → (a : Polynomial E) → IsPoly K O.places a → InSubalgebra P a → IsLead K O a m → IsCombination P S a
    member_combination = below_induction O L c (λ m. (a : Polynomial E) → IsPoly K O.places a → InSubalgebra P a → IsLead K O a m → IsCombination P S a)
        (λ m hm ih a hp hs la. ⊎_elim (λ l. reduced m hm ih a hp hs la l.member (of_ideal m l))
        (λ st. let b = of_word m (record { standard = record { monomial = hm.monomial; no_lead = st }; member = a; poly = hp; inside = hs; leads = la }) hm.degree in reduced m hm ih a hp hs la b.0 b.1)
        (dec m hm.monomial hm.degree))
      where
        reduced : (m : List ℕ) → IsWithin O L c m →
            ((k : List ℕ) → IsWithin O L c k → O.compare k m ≡ Less → (a : Polynomial E) → IsPoly K O.places a → InSubalgebra P a → IsLead K O a k → IsCombination P S a) →
            (a : Polynomial E) → IsPoly K O.places a → InSubalgebra P a → IsLead K O a m → (b : Polynomial E) → HasLeadAt m b → IsCombination P S a
        reduced m hm ih a hp hs la b h =
            let f = cancelling K F (coefficient K a m) (coefficient K b m) (coefficient_value K F a m) h.leads.nonzero (coefficient_value K F b m) in
            let cp = constant_poly K F O.places f.0 f.1 in
            let fb = times K (constant K f.0) b in
            let rest = minus K a (times K (constant K f.0) b) in
            let poly : IsPoly K O.places rest = minus_poly K F O.places a fb hp (IsPoly-times K F O.places (constant K f.0) b cp h.poly) in
            let inside : InSubalgebra P rest = sub_minus P H a fb hs (sub_times P H (constant K f.0) b cp (sub_constant P H f.0 f.1) h.inside) in
            let below = lowered K F O L a b m f.0 la h.leads f.2 in
            combination_same P H S HS (rest ++ fb) a (λ i. sym (minus_back K F a fb i))
            (combination_plus P H S HS rest fb
            (⊎_elim (λ z. combination_same P H S HS [] rest z (combination_zero P H S HS))
            (λ l. ih l.0
            (record { monomial = found_monomial K F O L rest poly l.0 l.1.nonzero; degree = let d = degree_falls O L l.0 m (below l.0 l.1.nonzero) in let e = hm.degree in omega arith })
            (below l.0 l.1.nonzero) rest poly inside l.1) (zero_or_lead K F O L rest poly))
            (combination_multiple P H S HS f.0 b f.1 h.combination))

    pub subduction : LowMembersAreCombinations P S c
    subduction a hp low hs = ⊎_elim
        (λ z. combination_same P H S HS [] a z (combination_zero P H S HS))
        (λ l. member_combination l.0 (record { monomial = found_monomial K F O L a hp l.0 l.1.nonzero; degree = low l.0 l.1.nonzero }) a hp hs l.1)
        (zero_or_lead K F O L a hp)

    -- over a reduced basis the generators and the minimal reducible s-words are combinations
    pub basis_combinations : HasCombinationsTo P c S
    basis_combinations = record {
      generators = λ f d k h le. subduction f (generator_poly P H f k) (λ n z. let e = h.each n z in omega arith) (generator_sub P H f k);
      words = λ u h le. subduction (word_value P S u) (word_monic P H S HS u).poly (word_low S HS c u le) (word_sub P H S HS (λ s k. (red.elements s k).inside) u h.1);
    }

    pub reduced_checked : IsCheckedBasis P c S
    reduced_checked = record {
      increasing = red.increasing;
      elements = λ s k. element_checked c c S s (red.elements s k).at_most (red.elements s k)
          (λ m z ne g. (red.elements s k).tail m z ne (generated_leads P H S HS (λ x i. (red.elements x i).inside) m ((red.elements s k).standard m z) g));
      minimal = red.minimal;
      combinations = basis_combinations;
    }

    module _ (closed : IsClosedAt P c S) where
      minimal_low : (u : List ℕ) → IsMinimalWord P S u → (word_order_of (letters P S)).degree u ≤ c
      minimal_low u h =
          let v = closed.words u h.0.word h.0.reducible in
          subst (λ x. (word_order_of (letters P S)).degree x ≤ c) (h.0.minimal v.0 v.1 v.2 v.3) v.4

      closed_combinations : (d : ℕ) → HasCombinationsTo P d S
      closed_combinations d = record {
        generators = λ f e k h le. basis_combinations.generators f e k h (let m = h.some in let x = h.each m.0 m.1 in let l = closed.generators f k m.0 m.1 in omega arith);
        words = λ u h le. basis_combinations.words u h (minimal_low u h);
      }

      pub closed_leads : (m : List ℕ) → LeadsSubalgebra P m → IsGenerated (map lead_monomial S) m
      closed_leads m h = leads_generated P H S HS (O.degree m) (closed_decided P H c (O.degree m) closed.leads dec) (closed_combinations (O.degree m)) m h (omega arith)

      pub closed_basis : (d : ℕ) → c ≤ d → IsReducedBasis P d S
      closed_basis d le = record {
        increasing = red.increasing;
        elements = λ s k. element_moved c d s (let a = (red.elements s k).at_most in omega arith) (red.elements s k);
        minimal = red.minimal;
        generates = λ m h l. closed_leads m h;
      }

  -- a basis that is checked element by element is the reduced basis
  pub checked_reduced : (c : ℕ) (S : List (Polynomial E)) → IsDecidedTo P c → IsCheckedBasis P c S → IsReducedBasis P c S
  checked_reduced c S dec h =
      let generates = leads_generated P H S (λ s k. let e = h.elements s k in record { decreasing = e.decreasing; monic = e.monic; positive = e.at_least }) c dec h.combinations in
      record {
        increasing = h.increasing;
        elements = λ s k.
            let e = h.elements s k in
            with_tail c s e.element (λ m z ne l. e.tail m z ne (generates m l (let d = e.homogeneous.each m z in let a = e.at_most in omega arith)));
        minimal = h.minimal;
        generates = generates;
      }
