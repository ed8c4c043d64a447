-- A generator of the degree of a basis: it can be subducted, and what is left may be the next element.
use Rattle.std.proofs.Common.{◌≡◌, ◌≢◌, ℕ, ◌+◌, ◌-◌, refl, sym, ◌∙◌, ap, subst, List, [], ◌∷◌, ◌++◌, append-nil, length, get_or, inl, inr, ⊎_elim, arith}
use Rattle.monomial_order.specs.Monomial.{Exponents}
use Rattle.monomial_order.specs.MonomialOrder.{MonomialOrder}
use Rattle.monomial_order.specs.laws.Lists.{contains_at}
use Rattle.polynomials.specs.Polynomial.{Polynomial, coefficient, degree_of, lead_monomial, minus}
use Rattle.polynomials.specs.Ideal.{Congruent}
use Rattle.polynomials.specs.Subalgebra.{Presented, IsPresentation}
use Rattle.polynomials.specs.laws.Coefficients.{decreasing_leads, minus_nonzero, nothing_at}
use Rattle.polynomials.specs.laws.Degrees.{all_found}
use Rattle.poly_core.specs.Presentation.{generator_degree}
use Rattle.subalgebra_laws.specs.Words.{combination_value, IsCombination}
use Rattle.subalgebra_laws.specs.laws.Members.{generator_poly}
use Rattle.witness.specs.declared.tracked.Tracked.{Tracked}
use Rattle.witness.specs.Tracking.{by_order, letter_poly, values_of, HasPlaces, IsCanonicalPair, IsGradedPair, IsShort, Tracks}
use Rattle.witness.specs.laws.Letters.{by_places}
use Rattle.witness.specs.laws.Short.{short_letter}
use Rattle.subduction.specs.Basis.{BasisState, IsBasisOf}
use Rattle.subduction.specs.declared.subduction.Subduced.{Subduced}
use Rattle.subduction.specs.Subduced.{witness_sum, CanSubduce, IsSubduced}
use Rattle.subduction.specs.laws.WitnessWords.{sum_letters, HasNoLetterBefore}
use Rattle.completion.specs.Candidates.{IsGeneratorAt}
use Rattle.completion.specs.Insertion.{IsRestOf}
use Rattle.subduction.specs.laws.Rests.{less_rest}
use Rattle.completion.proofs.Inserting.{Combinations}

generator_degree_of : {E : Type 0} (O : MonomialOrder) (p : Polynomial E) → p ≢ [] → generator_degree O p ≡ degree_of O p
generator_degree_of O [] n = absurd (n refl)
generator_degree_of O (t ∷ p) n = refl

module _ {F E : Type 0} (P : Presented E) (H : IsPresentation P) (b : BasisState F E) (B : IsBasisOf P b) where
  open P use {field as K, order as O, generators as fs}
  open H use {field as F', order as L}

  abbrev S : List (Polynomial E)
  S = values_of b.elements

  abbrev W : MonomialOrder
  W = by_order b.by_order

  abbrev d : ℕ
  d = b.words.degree

  -- the generator at index i, as the call that makes it counts it
  module _ (i : ℕ) (g : IsGeneratorAt P d i) (t : Tracked F E) (value : t.value ≡ get_or fs ((i + 1) - 1) []) (paired : HasPlaces (i + 1) b.by_order → IsCanonicalPair K O W t) where
    abbrev f : Polynomial E
    f = get_or fs i []

    before_next : (i + 1) - 1 ≡ i
    before_next = omega arith

    is : t.value ≡ f
    is = subst (λ n. t.value ≡ get_or fs n []) before_next value

    canonical : IsCanonicalPair K O W t
    canonical = paired (let p = by_places P S b.by_order B.by_order in let l = g.0 in omega arith)

    some : t.value ≢ []
    some e = (g.1.some).1 (ap (λ p. coefficient K p (g.1.some).0) (sym is ∙ e) ∙ sym (nothing_at K (g.1.some).0))

    homogeneous : (m : Exponents) → coefficient K t.value m ≢ K.zero → O.degree m ≡ d
    homogeneous m n = g.1.each m (subst (λ p. coefficient K p m ≢ K.zero) is n)

    pub degree_is : degree_of O t.value ≡ d
    degree_is = homogeneous (lead_monomial t.value) (decreasing_leads K F' O L t.value canonical.value.decreasing some).nonzero

    pub can_subduce : CanSubduce P b t
    can_subduce = record {
      canonical = canonical;
      reach = inl (let e = degree_is in omega arith);
      small = let e = degree_is in let s = (B.words).small in omega arith;
    }

    module _ (r : Subduced F E) (q : IsSubduced P b t r) where
      zero_rest : r.rest.value ≡ [] → IsCombination P S f
      zero_rest z = subst (IsCombination P S) is (record {
        sum = r.word_sum;
        irreducible = q.parts.sum;
        equal = subst (Congruent K O.places P.ideal t.value) (ap (λ x. combination_value P S r.word_sum ++ x) z ∙ append-nil (combination_value P S r.word_sum)) q.parts.equal;
      })

      difference : IsCombination P S (minus K f r.rest.value)
      difference = subst (λ x. IsCombination P S (minus K x r.rest.value)) is (record {
        sum = r.word_sum;
        irreducible = q.parts.sum;
        equal = less_rest P H b t r q;
      })

      -- the witness of the rest has letters of elements alone, beside that of the generator
      short_rest : t.by ≡ letter_poly K ((i + 1) - 1) → IsShort K (length fs) r.rest.by
      short_rest by m n =
          let e : t.by ≡ letter_poly K i = subst (λ n. t.by ≡ letter_poly K n) before_next by in
          ⊎_elim (λ a. short_letter K F' (length fs) i g.0 m (subst (λ p. coefficient K p m ≢ K.zero) e a))
          (λ a. inr (all_found K F' O L (HasNoLetterBefore (length fs)) (witness_sum P r.word_sum) (sum_letters P r.word_sum) m a))
          (minus_nonzero K F' t.by (witness_sum P r.word_sum) m (λ z. n (q.by m ∙ z)))

      pub generator_rest : t.by ≡ letter_poly K ((i + 1) - 1) → Tracks P S t → IsGradedPair K O W (generator_degree O (get_or fs ((i + 1) - 1) [])) t → IsRestOf P b f r.rest
      generator_rest by tracks graded =
          let degree = ap (generator_degree O) (sym value) ∙ (generator_degree_of O t.value some ∙ degree_is) in
          record {
            difference = difference;
            zero = zero_rest;
            new = λ n. record {
              tracks = q.tracks tracks;
              canonical = q.canonical;
              nonzero = n;
              graded = q.graded d (subst (λ n. IsGradedPair K O W n t) degree graded);
              reduced = q.parts.reduced;
            };
            short = short_rest by;
          }

  -- a generator of the degree is a combination once what is left of it is an element
  pub generator_combined : (i : ℕ) → IsGeneratorAt P d i → (r : Polynomial E) → IsCombination P S (minus K (get_or fs i []) r) → (c : BasisState F E) → Combinations P b r c → IsCombination P (values_of c.elements) (get_or fs i [])
  generator_combined i g r difference c h =
      h (get_or fs i []) (generator_poly P H (get_or fs i []) (contains_at fs i [] g.0)) (λ m n. let e = g.1.each m n in omega arith) difference
