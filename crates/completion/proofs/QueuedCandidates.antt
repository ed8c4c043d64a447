-- Candidates in a queue.
use Rattle.std.proofs.Common.{◌≡◌, ℕ, ◌+◌, ◌<◌, sym, ◌∙◌, ap, subst, List, [], ◌∷◌, ◌++◌, length, get_or, arith, append-nil, ⊎_elim}
use Rattle.std.specs.Prelude.{map, AllPairs, Contains, ◌↔◌}
use Rattle.std.specs.List.{range_with_len}
use Rattle.std.proofs.lemmas.List.{map-append}
use Rattle.std.proofs.lemmas.List.Elements.{Contains-push, Contains-push_cases}
use Rattle.std.proofs.lemmas.List.Quantifiers.{all_pairs_push}
use Rattle.monomial_order.specs.laws.Comparing.{numbers_or_not}
use Rattle.monomial_order.specs.laws.Lists.{contains_at, contains_left, contains_none}
use Rattle.word_field.specs.Field.{FieldOps}
use Rattle.monomial_order.specs.MonomialOrder.{MonomialOrder}
use Rattle.polynomials.specs.Polynomial.{Polynomial, coefficient, IsDegree, IsHomogeneous}
use Rattle.polynomials.specs.Subalgebra.{Presented}
use Rattle.poly_core.specs.Presentation.{IsCanonicalGenerator}
use Rattle.completion.specs.declared.candidates.Candidate.{Candidate}
use Rattle.completion.specs.declared.candidates.Candidate.TheVariants.{Generator, Word}
use Rattle.completion.specs.Candidates.{AreCandidates, IsGeneratorAt}

module _ {E : Type 0} (K : FieldOps E) (O : MonomialOrder) (d : ℕ) (f : Polynomial E) where
  -- zero has no degree
  pub zero_not : f ≡ [] → IsHomogeneous K O d f → ⊥
  unfolding coefficient
  zero_not e h = h.some.1 (ap (λ p. coefficient K p h.some.0) e)

  -- a homogeneous polynomial has the degree of its greatest monomial
  pub degree_same : (e : ℕ) → IsDegree K O e f → IsHomogeneous K O d f → e ≡ d
  degree_same e h k = sym h.some.2 ∙ k.each h.some.0 h.some.1

  pub same_degree : (e : ℕ) → IsCanonicalGenerator K O f → IsDegree K O e f → e ≡ d → IsHomogeneous K O d f
  unfolding coefficient
  same_degree e g h s =
      ⊎_elim (λ z. absurd (h.some.1 (ap (λ p. coefficient K p h.some.0) z)))
      (λ k. let same : k.0 ≡ d = sym (k.3.each h.some.0 h.some.1) ∙ (h.some.2 ∙ s) in subst (λ n. IsHomogeneous K O n f) same k.3) g.homogeneous

module _ {E : Type 0} (P : Presented E) (d : ℕ) where
  -- the generators of degree d at indexes below i
  pub record AreFirst (i : ℕ) (pending : List Candidate) : Type 0 where
    pub generators : List ℕ
    pub whole : pending ≡ map Generator generators
    pub increasing : AllPairs (λ i j. i < j) generators
    pub exactly : (k : ℕ) → Contains generators k ↔ ((k < i) × IsGeneratorAt P d k)

  pub none_first : (pending : List Candidate) → pending ≡ [] → AreFirst 0 pending
  none_first pending e = record {
    generators = [];
    whole = e;
    increasing = λ i j k l m. absurd (omega arith);
    exactly = λ k. (λ c. absurd (contains_none k c), λ h. let l = h.0 in absurd (omega arith));
  }

  pub one_more_first : (i : ℕ) (old new : List Candidate) → AreFirst i old → IsGeneratorAt P d i → new ≡ old ++ Generator i ∷ [] → AreFirst (i + 1) new
  one_more_first i old new h g e = record {
    generators = h.generators ++ i ∷ [];
    whole = e ∙ (ap (λ cs. cs ++ Generator i ∷ []) h.whole ∙ sym (map-append Generator h.generators (i ∷ [])));
    increasing = all_pairs_push (λ i j. i < j) h.generators i h.increasing (λ k x l. ((h.exactly (get_or h.generators k x)).0 (contains_at h.generators k x l)).0);
    exactly = λ k. (
      λ c. ⊎_elim (λ a. let r = (h.exactly k).0 a in let l = r.0 in (omega arith, r.1)) (λ s. (omega arith, subst (IsGeneratorAt P d) s g)) (Contains-push_cases h.generators i k c),
      λ r. ⊎_elim (λ s. subst (Contains (h.generators ++ i ∷ [])) (sym s) (Contains-push h.generators i))
          (λ n. contains_left h.generators (i ∷ []) k ((h.exactly k).1 (let l = r.0 in below k i l n, r.1))) (numbers_or_not k i),
    );
  }
    where
      below : (k i : ℕ) → k < i + 1 → (k ≡ i → ⊥) → k < i
      below k i l n = omega arith

  pub same_first : (i : ℕ) (pending : List Candidate) → AreFirst i pending → ¬ IsGeneratorAt P d i → AreFirst (i + 1) pending
  same_first i pending h n = record {
    generators = h.generators;
    whole = h.whole;
    increasing = h.increasing;
    exactly = λ k. (
      λ c. let r = (h.exactly k).0 c in let l = r.0 in (omega arith, r.1),
      λ r. (h.exactly k).1 (⊎_elim (λ s. absurd (n (subst (IsGeneratorAt P d) s r.1))) (λ o. let l = r.0 in omega arith) (numbers_or_not k i), r.1),
    );
  }

  -- the generators of degree d, and no words
  pub all_first : (pending : List Candidate) → AreFirst (length P.generators) pending → AreCandidates P d 0 pending
  all_first pending h = record {
    generators = h.generators;
    whole = h.whole ∙ sym (append-nil (map Generator h.generators));
    increasing = h.increasing;
    exactly = λ k. (λ c. ((h.exactly k).0 c).1, λ g. (h.exactly k).1 (g.0, g));
  }

  pub with_words : (n : ℕ) (old new : List Candidate) → AreCandidates P d 0 old → new ≡ old ++ map Word (range_with_len 0 n) → AreCandidates P d n new
  with_words n old new h e = record {
    generators = h.generators;
    whole = e ∙ ap (λ cs. cs ++ map Word (range_with_len 0 n)) (h.whole ∙ append-nil (map Generator h.generators));
    increasing = h.increasing;
    exactly = h.exactly;
  }
