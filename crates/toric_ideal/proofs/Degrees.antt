-- Rules of degree 0, and rules with other zeros.
use Rattle.std.proofs.Common.{◌≡◌, ℕ, ◌≤◌, ap, subst, List, [], length, arith, inl, inr, ⊎_elim}
use Rattle.std.specs.Prelude.{Contains, Option, Some, None}
use Rattle.std.specs.declared.cmp.Ordering.TheVariants.{Less}
use Rattle.monomial_order.specs.Monomial.{weighted_degree, Divides, IsMonomial, IsTrimmed, IsMultiple}
use Rattle.monomial_order.specs.MonomialOrder.{IsMonomialOrder, MonomialOrder}
use Rattle.monomial_order.specs.laws.Monomial.{weighted_nil}
use Rattle.monomial_order.specs.laws.Comparing.{divisor_degree, none_below_one, some_exponent, equal_or_not}
use Rattle.monomial_order.specs.laws.Lists.{contains_none}
use Rattle.word_laws.specs.Words.{image_of, word_order_of, AreLetters, IsMinimalReducible, IsReducible, Letters}
use Rattle.word_laws.specs.laws.Words.{degree_image, degree_x, image_x, word_laws}
use Rattle.word_rewriting.specs.Completeness.{IsLeastOrZero}
use Rattle.toric_ideal.specs.declared.rule.Rule.{Rule}
use Rattle.toric_ideal.specs.Listing.{AgreeTo, AreRules}

-- a word of degree 0 is 1
pub degree_none : (O : MonomialOrder) → IsMonomialOrder O → (u : List ℕ) → IsMonomial O.places u → O.degree u ≤ 0 → u ≡ []
degree_none O W u h d =
    ⊎_elim (λ e. e)
    (λ n. let x = some_exponent u h.trimmed n in let l = x.1 in let p = x.2 in let w = h.within in let e = W.exponent_at_most u x.0 (omega arith) in absurd (omega arith))
    (equal_or_not u [])

module _ (L : Letters) (H : AreLetters L) (zeros : List (List ℕ)) where
  -- at degree 0 there is no rule
  pub rules_none : ((z : List ℕ) → Contains zeros z → IsTrimmed z × (1 ≤ weighted_degree L.degrees z)) → AreRules L zeros 0 []
  rules_none hz = record {
    increasing = tt;
    minimal = λ r c. absurd (contains_none r c);
    degree = λ r c. absurd (contains_none r c);
    least = λ r c. absurd (contains_none r c);
    all = λ w m d.
        let none : w ≡ [] = degree_none (word_order_of L) (word_laws L H) w m.word d in
        absurd (⊎_elim
        (λ z.
        let zero_one : Divides z.0 [] = subst (λ x. Divides z.0 (image_of L x)) none z.2 in
        let h = hz z.0 z.1 in
        no_divisor L.degrees z.0 h.0 h.1 zero_one)
        (λ s. none_below_one (word_order_of L) (word_laws L H) s.0 s.1.word (subst (λ x. (word_order_of L).compare s.0 x ≡ Less) none s.1.less))
        m.reducible);
  }
    where
      no_divisor : (ds z : List ℕ) → IsTrimmed z → 1 ≤ weighted_degree ds z → Divides z [] → ⊥
      no_divisor ds z t p d =
          ⊎_elim (λ e. let q : weighted_degree ds z ≡ weighted_degree ds [] = ap (weighted_degree ds) e in let o = weighted_nil ds in omega arith)
          (λ n. let x = some_exponent z t n in let a = x.2 in let b = d x.0 in omega arith) (equal_or_not z [])

-- rules to a degree speak of the zeros to that degree alone
module _ (L : Letters) (H : AreLetters L) (d : ℕ) where
  -- a multiple of a zero of the one list is one of a zero of the other
  multiple_agrees : (old new : List (List ℕ)) → ((z : List ℕ) → Contains old z → IsMonomial (length L.degrees) z) → ((z : List ℕ) → weighted_degree L.degrees z ≤ d → Contains old z → Contains new z) →
      (w : List ℕ) → (word_order_of L).degree w ≤ d → IsMultiple old (image_of L w) → IsMultiple new (image_of L w)
  multiple_agrees old new hz agree w l m =
      let z = hz m.0 m.1 in
      let i = image_x L H w in
      let a = divisor_degree (word_order_of L) (word_laws L H) m.0 (image_of L w) z.trimmed i.trimmed m.2 in
      let b = degree_image L H w in
      let c = degree_x L H m.0 z in
      (m.0, agree m.0 (omega arith) m.1, m.2)

  reducible_agrees : (old new : List (List ℕ)) → ((z : List ℕ) → Contains old z → IsMonomial (length L.degrees) z) → ((z : List ℕ) → weighted_degree L.degrees z ≤ d → Contains old z → Contains new z) →
      (w : List ℕ) → (word_order_of L).degree w ≤ d → IsReducible (IsMultiple old) L w → IsReducible (IsMultiple new) L w
  reducible_agrees old new hz agree w l r = ⊎_elim (λ z. inl (multiple_agrees old new hz agree w l z)) (λ s. inr s) r

  module _ (old new : List (List ℕ)) (hold : (z : List ℕ) → Contains old z → IsMonomial (length L.degrees) z) (hnew : (z : List ℕ) → Contains new z → IsMonomial (length L.degrees) z)
      (agree : AgreeTo L.degrees d old new) where
    there : (z : List ℕ) → weighted_degree L.degrees z ≤ d → Contains old z → Contains new z
    there z l c = (agree z l).0 c

    back : (z : List ℕ) → weighted_degree L.degrees z ≤ d → Contains new z → Contains old z
    back z l c = (agree z l).1 c

    minimal_there : (w : List ℕ) → (word_order_of L).degree w ≤ d → IsMinimalReducible (IsMultiple old) L w → IsMinimalReducible (IsMultiple new) L w
    minimal_there w l m = record {
      word = m.word;
      reducible = reducible_agrees old new hold there w l m.reducible;
      minimal = λ v hv r dv. let a = divisor_degree (word_order_of L) (word_laws L H) v w hv.trimmed m.word.trimmed dv in m.minimal v hv (reducible_agrees new old hnew back v (omega arith) r) dv;
    }

    minimal_back : (w : List ℕ) → (word_order_of L).degree w ≤ d → IsMinimalReducible (IsMultiple new) L w → IsMinimalReducible (IsMultiple old) L w
    minimal_back w l m = record {
      word = m.word;
      reducible = reducible_agrees new old hnew back w l m.reducible;
      minimal = λ v hv r dv. let a = divisor_degree (word_order_of L) (word_laws L H) v w hv.trimmed m.word.trimmed dv in m.minimal v hv (reducible_agrees old new hold there v (omega arith) r) dv;
    }

    least_there : (w : List ℕ) → (word_order_of L).degree w ≤ d → (v : Option (List ℕ)) → IsLeastOrZero (IsMultiple old) L (image_of L w) v → IsLeastOrZero (IsMultiple new) L (image_of L w) v
    least_there w l None h = multiple_agrees old new hold there w l h
    least_there w l (Some v) h = (λ z. h.0 (multiple_agrees new old hnew back w l z), h.1)

    pub rules_agree : (rules : List Rule) → AreRules L old d rules → AreRules L new d rules
    rules_agree rules R = record {
      increasing = R.increasing;
      minimal = λ r c. minimal_there r.word (R.degree r c) (R.minimal r c);
      degree = R.degree;
      least = λ r c. least_there r.word (R.degree r c) r.least (R.least r c);
      all = λ w m l. R.all w (minimal_back w l m) l;
    }
