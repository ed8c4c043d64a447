-- The first basis, and one that goes further.
use Rattle.std.proofs.Common.{◌≡◌, ℕ, ◌<◌, ◌≤◌, refl, sym, ◌∙◌, ap, subst, List, [], arith, append-nil, Bool, true, false, ⊎_elim, ◌⊎◌}
use Rattle.std.specs.Prelude.{map, Contains, All, ◌↔◌}
use Rattle.std.proofs.lemmas.List.Elements.{All-append}
use Rattle.monomial_order.specs.Monomial.{Exponents}
use Rattle.monomial_order.specs.declared.word_order.WordOrder.{WordOrder}
use Rattle.monomial_order.specs.laws.Lists.{contains_none}
use Rattle.word_laws.specs.Words.{Letters}
use Rattle.polynomials.specs.Polynomial.{degree_of}
use Rattle.polynomials.specs.Subalgebra.{Presented, IsPresentation}
use Rattle.poly_core.specs.Presentation.{generator_degree}
use Rattle.quotient_gb.specs.Quotient.{with_closed, QuotientState, HasGeneratorAbove, HasOtherLead, IsQuotientOf}
use Rattle.toric_ideal.specs.Listing.{AgreeTo, AreZeros, IsListing, Listing}
use Rattle.subalgebra_laws.specs.Words.{letters}
use Rattle.witness.specs.declared.tracked.Tracked.{Tracked}
use Rattle.subduction.specs.Basis.{BasisState, AreInParts, IsBasisOf}
use Rattle.subduction.proofs.Elements.{degree_is}
use Rattle.subduction.proofs.IdealLeads.{are_zeros, lead_minimal, lead_monomials, leads_to, positive_lead, same_leads, to_has, to_part}

module _ {F E : Type 0} (P : Presented E) (H : IsPresentation P) where
  open P use {field as K, order as O, generators as fs}

  -- no element, to the degree 0
  pub first_basis : (q : QuotientState E) (W : Listing) (w : WordOrder) → IsQuotientOf P q → IsListing W → W.letters ≡ letters P [] → W.zeros ≡ [] → W.degree ≡ 0 →
      w.x_degrees.items ≡ [] → w.s_degrees.items ≡ map (generator_degree O) fs → IsBasisOf P (let b : BasisState F E = record { quotient = q; words = W; elements = []; by_order = w } in b)
  first_basis q W w Q L e z d x s = record {
    quotient = Q;
    words = L;
    letters = e;
    zeros = λ m. (
      λ k. absurd (contains_none m (subst (λ ms. Contains ms m) z k)),
      λ k. let p = positive_lead P H m (let l = lead_minimal P H q Q m k.0 in l.leads) in let l = k.1 in absurd (omega arith),
    );
    degree = omega arith;
    elements = λ i t l. absurd (omega arith);
    parts = ([], [], record { whole = refl; lower_less = λ i t l. absurd (omega arith); last_equal = λ i t l. absurd (omega arith) });
    by_order = record { no_x = x; degrees = s ∙ sym (append-nil (map (generator_degree O) fs)) };
  }

  module _ (b : BasisState F E) (B : IsBasisOf P b) (q : QuotientState E) (Q : IsQuotientOf P q) (further : b.quotient.degree ≤ q.degree) where
    forth : (z : Exponents) → Contains b.words.zeros z → Contains q.leads z × (O.degree z ≤ b.words.degree)
    forth z k =
        let r = (B.zeros z).0 k in let l = r.1 in let d = B.degree in
        (same_leads P H b.quotient q B.quotient Q z r.0 (omega arith), l)

    back : (z : Exponents) → Contains q.leads z → O.degree z ≤ b.words.degree → Contains b.words.zeros z
    back z k l = let d = B.degree in (B.zeros z).1 (same_leads P H q b.quotient Q B.quotient z k (omega arith), l)

    -- another quotient
    pub with_quotient : IsBasisOf P (record { quotient = q; words = b.words; elements = b.elements; by_order = b.by_order })
    with_quotient = record {
      quotient = Q;
      words = B.words;
      letters = B.letters;
      zeros = λ z. (forth z, λ k. back z k.0 k.1);
      degree = let d = B.degree in omega arith;
      elements = λ i t l. let e = B.elements i t l in record { tracked = e.tracked; monic = e.monic; standard = e.standard };
      parts = B.parts;
      by_order = B.by_order;
    }

    module _ (c : ℕ) where
      pub zeros_are : AreZeros b.words.letters.degrees c (leads_to P H q Q c)
      zeros_are = subst (λ (L : Letters). AreZeros L.degrees c (leads_to P H q Q c)) (sym B.letters) (are_zeros P H q Q c)

      pub zeros_agree : b.words.degree < c → AgreeTo b.words.letters.degrees b.words.degree b.words.zeros (leads_to P H q Q c)
      zeros_agree less z l = (
        λ k. let r = forth z k in let d = r.1 in to_has P H q Q c z r.0 (omega arith),
        λ k.
            let r = to_part P H q Q c z k in
            let e = degree_is P H b B z (lead_monomials P H q Q z r.0) in
            back z r.0 (omega arith),
      )

      -- other words
      pub with_words : (W : Listing) → IsListing W → W.letters ≡ b.words.letters → W.degree ≡ c → W.zeros ≡ leads_to P H q Q c → b.words.degree < c → c ≤ q.degree →
          IsBasisOf P (record { quotient = q; words = W; elements = b.elements; by_order = b.by_order })
      with_words W L e d z less low = record {
        quotient = Q;
        words = L;
        letters = e ∙ B.letters;
        zeros = λ m. (
          λ k. let r = to_part P H q Q c m (subst (λ ms. Contains ms m) z k) in let l = r.1 in (r.0, omega arith),
          λ k. let l = k.1 in subst (λ ms. Contains ms m) (sym z) (to_has P H q Q c m k.0 (omega arith)),
        );
        degree = omega arith;
        elements = λ i t l. let e = B.elements i t l in record { tracked = e.tracked; monic = e.monic; standard = e.standard };
        parts = (
          b.elements,
          [],
          record {
            whole = sym (append-nil b.elements);
            lower_less = subst (λ ts. All (λ (t : Tracked F E). degree_of O t.value < W.degree) ts) (sym (B.parts.2).whole)
                (All-append (λ (t : Tracked F E). degree_of O t.value < W.degree) B.parts.0 B.parts.1
                (λ i t l. let a = (B.parts.2).lower_less i t l in omega arith)
                (λ i t l. let a = (B.parts.2).last_equal i t l in omega arith));
            last_equal = λ i t l. absurd (omega arith);
          },
        );
        by_order = B.by_order;
      }

  -- other words of the same letters, zeros and degree
  pub other_words : (b : BasisState F E) → IsBasisOf P b → (W : Listing) → IsListing W → W.letters ≡ b.words.letters → W.zeros ≡ b.words.zeros → W.degree ≡ b.words.degree →
      IsBasisOf P (record { quotient = b.quotient; words = W; elements = b.elements; by_order = b.by_order })
  other_words b B W L e z d = record {
    quotient = B.quotient;
    words = L;
    letters = e ∙ B.letters;
    zeros = λ m. (
      λ k. let r = (B.zeros m).0 (subst (λ ms. Contains ms m) z k) in let l = r.1 in (r.0, omega arith),
      λ k. let l = k.1 in subst (λ ms. Contains ms m) (sym z) ((B.zeros m).1 (k.0, omega arith)),
    );
    degree = let l = B.degree in omega arith;
    elements = λ i t l. let e = B.elements i t l in record { tracked = e.tracked; monic = e.monic; standard = e.standard };
    parts = subst (λ n. (lower last : List (Tracked F E)) × AreInParts P n b.elements lower last) (sym d) B.parts;
    by_order = B.by_order;
  }

  -- the zeros are the leads of the quotient to the degree of the words
  pub zeros_back : (b : BasisState F E) → IsBasisOf P b → (q : QuotientState E) (Q : IsQuotientOf P q) → q.leads ≡ b.quotient.leads → (z : Exponents) →
      Contains (leads_to P H q Q b.words.degree) z ↔ Contains b.words.zeros z
  zeros_back b B q Q e z = (
    λ k. let r = to_part P H q Q b.words.degree z k in (B.zeros z).1 (subst (λ ms. Contains ms z) e r.0, r.1),
    λ k. let r = (B.zeros z).0 k in to_has P H q Q b.words.degree z (subst (λ ms. Contains ms z) (sym e) r.0) r.1,
  )

module _ {E : Type 0} (P : Presented E) where
  -- a quotient that is known to be closed is not found open
  pub open_quotient : (q : QuotientState E) → IsQuotientOf P q → HasGeneratorAbove P q.degree ⊎ HasOtherLead P q.leads → (let r = with_closed false q in r) ≡ q
  open_quotient q Q o = by_mark q.closed refl
    where
      never : q.closed ≡ true → ⊥
      never e =
          let c = Q.closed e in
          ⊎_elim (λ g. let l = c.generators g.0 g.1 g.2 g.3 in let k = g.4 in absurd (omega arith)) (λ n. n.2 (c.divides n.0 n.1)) o

      by_mark : (r : Bool) → q.closed ≡ r → with_closed false q ≡ q
      by_mark true e = absurd (never e)
      by_mark false e = ap (λ r. with_closed r q) (sym e)
