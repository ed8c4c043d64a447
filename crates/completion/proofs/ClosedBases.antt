-- Whether anything new comes after a degree, by what a basis knows.
use Rattle.std.proofs.Common.{◌≡◌, ℕ, ◌<◌, ◌≤◌, ◌⊎◌, inl, inr, ⊎_elim, sym, ap, subst, List, length, arith, true}
use Rattle.std.specs.Prelude.{Contains}
use Rattle.monomial_order.specs.Monomial.{Exponents, Divides, IsMonomial, IsMultiple}
use Rattle.monomial_order.specs.laws.Cofactors.{Divides-trans}
use Rattle.monomial_order.specs.laws.Comparing.{divisor_degree, le_or_not}
use Rattle.monomial_order.specs.MonomialOrder.{IsMonomialOrder}
use Rattle.word_laws.specs.Words.{Letters, AreLetters, image_of, word_order_of, IsMinimalReducible, IsReducible, IsWord}
use Rattle.word_laws.specs.laws.Reducible.{multiple_closed, multiple_decided, reducible_exactly, reducible_zeros}
use Rattle.word_laws.specs.laws.Words.{image_x, word_laws}
use Rattle.toric_ideal.specs.Listing.{AreRules, HasRuleDivisor}
use Rattle.toric_ideal.specs.declared.rule.Rule.{Rule}
use Rattle.polynomials.specs.Polynomial.{Polynomial}
use Rattle.polynomials.specs.Subalgebra.{Presented, IsPresentation, AreZerosTo, HasDegreesTo, IsDecidedTo, LeadsIdeal}
use Rattle.polynomials.specs.laws.NormalForm.{multiple_leads}
use Rattle.quotient_gb.specs.IdealBasis.{IsMinimalLead}
use Rattle.quotient_gb.specs.Quotient.{HasGeneratorAbove, HasOtherLead, QuotientState, with_closed}
use Rattle.subalgebra_laws.specs.Bases.{IsClosedAt}
use Rattle.subalgebra_laws.specs.Statements.{ForMonicElements, ZerosRepresentTheIdeal}
use Rattle.subalgebra_laws.specs.Words.{letters, IsReducibleWord}
use Rattle.subalgebra_laws.specs.laws.Letters.{places_x}
use Rattle.witness.specs.Tracking.{values_of}
use Rattle.word_values.specs.Values.{word_degree}
use Rattle.subduction.specs.Basis.{BasisState, HasOtherWord, IsBasisOf, IsKnownClosed}
use Rattle.subduction.specs.laws.Decisions.{leads_are_zeros, quotient_decides, words_have_zeros, zeros_represent, ZerosRepresent}
use Rattle.completion.specs.Closed.{HasHigher, HasLater, HasNewLead, HasNewWord, HasNoneAbove}

-- what comes later shows that the basis is not closed
module _ {E : Type 0} (P : Presented E) (S : List (Polynomial E)) (c : ℕ) where
  not_higher : (list : List (Polynomial E)) → (x : HasHigher P c list) → HasDegreesTo P c x.polynomial → ⊥
  not_higher list x d =
      let m = x.homogeneous.some in
      let a = d m.0 m.1 in let b = x.homogeneous.each m.0 m.1 in let l = x.higher in omega arith

  not_new_lead : HasNewLead P c → IsClosedAt P c S → ⊥
  not_new_lead x k = let n = k.leads x.monomial x.lead in let a = x.new n.0 n.1 n.2 in let b = n.3 in omega arith

  not_new_word : HasNewWord P c S → IsClosedAt P c S → ⊥
  not_new_word x k = let v = k.words x.word x.is_word x.reducible in let a = x.new v.0 v.1 v.2 v.3 in let b = v.4 in omega arith

  pub not_closed : HasLater P c S → ¬ IsClosedAt P c S
  not_closed h k = ⊎_elim
      (λ g. ⊎_elim (λ x. not_higher P.generators x (k.generators x.polynomial x.member))
      (λ x. not_higher P.ideal x (k.ideal x.polynomial x.member)) g)
      (λ w. ⊎_elim (λ x. not_new_lead x k) (λ x. not_new_word x k) w) h

module _ {F E : Type 0} (P : Presented E) (H : IsPresentation P) (b : BasisState F E) (B : IsBasisOf P b) where
  abbrev S : List (Polynomial E)
  S = values_of b.elements

  abbrev L : Letters
  L = letters P S

  -- the leads of the quotient are zeros of the ideal
  zeros : AreZerosTo P b.quotient.degree b.quotient.leads
  zeros = leads_are_zeros P H b B

  -- the ideal is decided to each degree that is not above that of the quotient
  pub decides_to : (c : ℕ) → c ≤ b.quotient.degree → IsDecidedTo P c
  decides_to c le m hm l = quotient_decides P H b B m hm (omega arith)

  letters_are : AreLetters L
  letters_are = subst AreLetters B.letters B.words.letters

  pub words_order : IsMonomialOrder (word_order_of L)
  words_order = word_laws L letters_are

  pub rules_are : AreRules L b.words.zeros b.words.degree b.words.rules
  rules_are = subst (λ M. AreRules M b.words.zeros b.words.degree b.words.rules) B.letters B.words.rules

  image_monomial : (w : Exponents) → IsMonomial P.order.places (image_of L w)
  image_monomial w = subst (λ n. IsMonomial n (image_of L w)) (places_x P S) (image_x L letters_are w)

  -- a word that is reducible by the zeros is reducible by the ideal
  zeros_reduce : (w : Exponents) → IsReducible (IsMultiple b.words.zeros) L w → IsReducibleWord P S w
  zeros_reduce w h =
      reducible_zeros (IsMultiple b.words.zeros) (LeadsIdeal P) L w
      (multiple_leads P H b.words.degree b.words.zeros (words_have_zeros P H b B) (image_of L w) (image_monomial w)) h

  module _ (represent : ZerosRepresentTheIdeal P S b.words.degree b.words.zeros) where
    -- a rule divides each reducible word of a degree of the words
    rule_divides : (v : Exponents) → IsWord L v → IsReducibleWord P S v → word_degree P S v ≤ b.words.degree →
        HasRuleDivisor b.words.rules v
    rule_divides v hv rv l =
        let known = b.words.zeros in
        let u = (reducible_exactly L letters_are (IsMultiple known) (multiple_closed (length L.degrees) known) (multiple_decided (length L.degrees) known) v hv).0 ((represent v l).0.1 rv) in
        let low = divisor_degree (word_order_of L) (word_laws L letters_are) u.0 v u.1.word.trimmed hv.trimmed u.2 in
        let r = rules_are.all u.0 u.1 (omega arith) in
        (r.0, r.1, subst (λ x. Divides x v) (sym r.2) u.2)

    -- the word of a rule is a minimal reducible word
    rule_minimal : (r : Rule) → Contains b.words.rules r → IsMinimalReducible (LeadsIdeal P) L r.word
    rule_minimal r h = (represent r.word (rules_are.degree r h)).1.0 (rules_are.minimal r h)

    rule_of : (u : Exponents) → IsMinimalReducible (LeadsIdeal P) L u → word_degree P S u ≤ b.words.degree →
        (r : Rule) × Contains b.words.rules r × (r.word ≡ u)
    rule_of u h l = rules_are.all u ((represent u l).1.1 h) l

  module _ (c : ℕ) where
    pub new_lead : (m : Exponents) → IsMinimalLead P m → c < P.order.degree m → HasNewLead P c
    new_lead m h l = record {
      monomial = m;
      lead = h.leads;
      new = λ n k d. subst (λ x. c < P.order.degree x) (sym (h.minimal n k d)) l;
    }

    other_lead : c ≤ b.quotient.degree → HasOtherLead P b.quotient.leads → HasNewLead P c
    other_lead le (m, h, none) = record { monomial = m; lead = h; new = λ n k d. by_degree n k d (le_or_not (P.order.degree n) c) }
      where
        by_degree : (n : Exponents) → LeadsIdeal P n → Divides n m →
            (P.order.degree n ≤ c) ⊎ (P.order.degree n ≤ c → ⊥) → c < P.order.degree n
        by_degree n k d (inl low) = let w = zeros.divide n k (omega arith) in absurd (none (w.0, w.1, Divides-trans w.0 n m w.2 d))
        by_degree n k d (inr high) = omega arith

    module _ (represent : ZerosRepresentTheIdeal P S b.words.degree b.words.zeros) where
      pub new_word : (r : Rule) → Contains b.words.rules r → c < word_degree P S r.word → HasNewWord P c S
      new_word r h l =
          let m = rule_minimal represent r h in
          record {
            word = r.word;
            is_word = m.word;
            reducible = m.reducible;
            new = λ v hv rv d. subst (λ x. c < word_degree P S x) (sym (m.minimal v hv rv d)) l;
          }

      other_word : c ≤ b.words.degree → HasOtherWord b.words → HasNewWord P c S
      other_word le x = record {
        word = x.word;
        is_word = subst (λ M. IsWord M x.word) B.letters x.is_word;
        reducible = zeros_reduce x.word (subst (λ M. IsReducible (IsMultiple b.words.zeros) M x.word) B.letters x.reducible);
        new = λ v hv rv d. by_degree v hv rv d (le_or_not (word_degree P S v) c);
      }
        where
          by_degree : (v : Exponents) → IsWord L v → IsReducibleWord P S v → Divides v x.word →
              (word_degree P S v ≤ c) ⊎ (word_degree P S v ≤ c → ⊥) → c < word_degree P S v
          by_degree v hv rv d (inl low) =
              let r = rule_divides represent v hv rv (omega arith) in absurd (x.no_rule (r.0, r.1, Divides-trans r.0.word v x.word r.2 d))
          by_degree v hv rv d (inr high) = omega arith

      -- what shows that quotient and words are not closed
      pub later : c ≤ b.words.degree →
          (HasGeneratorAbove P b.quotient.degree ⊎ HasOtherLead P b.quotient.leads) ⊎ HasOtherWord b.words → HasLater P c S
      later le h =
          let d = B.degree in
          ⊎_elim
          (λ q. ⊎_elim
          (λ (r, k, e, hr, l). let high : c < e = omega arith in
          inl (inr (record { polynomial = r; member = k; degree = e; homogeneous = hr; higher = high })))
          (λ x. inr (inl (other_lead (omega arith) x))) q)
          (λ x. inr (inr (other_word le x))) h

    -- if the degrees are at most c and quotient and words are closed, nothing comes after c
    closed_at : c ≤ b.words.degree → HasNoneAbove P c b → IsKnownClosed b → IsClosedAt P c S
    closed_at le none known = record {
      generators = none.generators;
      ideal = none.ideal;
      leads = λ m h. let w = all_leads m h in (w.0, zeros.lead w.0 w.1, w.2, none.leads w.0 w.1);
      words = λ w hw rw.
          let r = all_words w hw (reducible_zeros (LeadsIdeal P) (IsMultiple b.words.zeros) L w (multiple_of_zero (image_of L w)) rw) in
          (r.0.word, (rules_are.minimal r.0 r.1).word, zeros_reduce r.0.word (rules_are.minimal r.0 r.1).reducible, r.2, none.rules r.0 r.1);
    }
      where
        all_leads : (m : Exponents) → LeadsIdeal P m → IsMultiple b.quotient.leads m
        all_leads = (B.quotient.closed known.quotient).divides

        multiple_of_zero : (m : Exponents) → LeadsIdeal P m → IsMultiple b.words.zeros m
        multiple_of_zero m h =
            let w = all_leads m h in let d = none.leads w.0 w.1 in (w.0, (B.zeros w.0).1 (w.1, omega arith), w.2)

        all_words : (w : Exponents) → IsWord L w → IsReducible (IsMultiple b.words.zeros) L w → HasRuleDivisor b.words.rules w
        all_words =
            subst (λ M. (w : Exponents) → IsWord M w → IsReducible (IsMultiple b.words.zeros) M w → HasRuleDivisor b.words.rules w) B.letters
            (B.words.closed known.words)

-- the quotient is as before, or known to be closed
abbrev pub IsMarked : {E : Type 0} → QuotientState E → QuotientState E → Type 0
IsMarked old new = (new ≡ old) ⊎ (new ≡ with_closed true old)

marked_degree : {E : Type 0} (p q : QuotientState E) → IsMarked p q → q.degree ≡ p.degree
marked_degree p q h = ⊎_elim (λ e. ap (λ s. s.degree) e) (λ e. ap (λ s. s.degree) e) h

marked_leads : {E : Type 0} (p q : QuotientState E) → IsMarked p q → q.leads ≡ p.leads
marked_leads p q h = ⊎_elim (λ e. ap (λ s. s.leads) e) (λ e. ap (λ s. s.leads) e) h

-- the basis after a search for later rules
module _ {F E : Type 0} (P : Presented E) (H : IsPresentation P) (b d : BasisState F E) (B : IsBasisOf P b) (D : IsBasisOf P d)
    (law : ForMonicElements E ZerosRepresent) (elements : d.elements ≡ b.elements) (quotient : IsMarked b.quotient d.quotient)
    (words : d.words.degree ≡ b.words.degree) where
  none_after : (c : ℕ) → HasNoneAbove P c b → HasNoneAbove P c d
  none_after c none = record {
    generators = none.generators;
    ideal = none.ideal;
    leads = λ m h. none.leads m (subst (λ ms. Contains ms m) (marked_leads b.quotient d.quotient quotient) h);
    rules = λ r h.
        let minimal : IsMinimalReducible (LeadsIdeal P) (letters P (values_of b.elements)) r.word =
        subst (λ ts. IsMinimalReducible (LeadsIdeal P) (letters P (values_of ts)) r.word) elements (rule_minimal P H d D (zeros_represent P H d D law) r h) in
        let low : word_degree P (values_of b.elements) r.word ≤ d.words.degree =
        subst (λ ts. word_degree P (values_of ts) r.word ≤ d.words.degree) elements ((rules_are P H d D).degree r h) in
        let s = rule_of P H b B (zeros_represent P H b B law) r.word minimal (subst (λ n. word_degree P (values_of b.elements) r.word ≤ n) words low) in
        subst (λ ts. word_degree P (values_of ts) r.word ≤ c) (sym elements)
        (subst (λ u. word_degree P (values_of b.elements) u ≤ c) s.2 (none.rules s.0 s.1));
  }

  pub closed_after : (c : ℕ) → c ≤ b.words.degree → HasNoneAbove P c b → IsKnownClosed d → IsClosedAt P c (values_of b.elements)
  closed_after c le none known =
      subst (λ ts. IsClosedAt P c (values_of ts)) elements (closed_at P H d D c (omega arith) (none_after c none) known)
