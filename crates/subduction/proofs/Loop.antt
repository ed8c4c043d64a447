-- The loop of a subduction.
use Rattle.std.proofs.Common.{◌≡◌, ◌≢◌, ℕ, ◌≤◌, ◌<◌, ◌++◌, ◌⊎◌, inl, inr, sym, ◌∙◌, ap, subst, List, [], ◌∷◌, Bool, true, length, ⊎_elim, arith}
use Rattle.std.specs.Prelude.{map, nat_le}
use Rattle.std.proofs.lemmas.Bool.{leb-true, le-leb}
use Rattle.monomial_order.specs.declared.terms.Term.{Term}
use Rattle.monomial_order.specs.Limits.{degree_max, exponent_max}
use Rattle.monomial_order.specs.Monomial.{Exponents, IsMonomial, IsMultiple, weighted_degree}
use Rattle.std.proofs.lemmas.List.{length-map}
use Rattle.word_laws.specs.Words.{image_of, variables, AreLetters, IsLeast, IsSWord, word_order_of}
use Rattle.word_laws.specs.laws.Words.{degree_image, degree_x}
use Rattle.word_laws.specs.laws.Images.{degree_weighted, length-variables}
use Rattle.subalgebra_laws.specs.Statements.{ForMonicElements, ProductsAreImages}
use Rattle.polynomials.specs.Polynomial.{Polynomial, degree_of, lead_monomial, term_of, IsCanonical}
use Rattle.polynomials.specs.Subalgebra.{Presented, IsGenerated, IsPresentation, IsStandard}
use Rattle.polynomials.specs.laws.Lowering.{height, height_less, height_rest}
use Rattle.polynomials.specs.laws.Terms.{canonical_right, AllAt-right}
use Rattle.subalgebra_laws.specs.Words.{letters}
use Rattle.witness.specs.Tracking.{values_of}
use Rattle.word_values.specs.Values.{word_degree}
use Rattle.toric_ideal.specs.Listing.{IsDecided}
use Rattle.subduction.specs.Basis.{BasisState, IsBasisOf, IsKnownClosed}
use Rattle.subduction.specs.Subduced.{IsInReach}
use Rattle.subduction.specs.Steps.{IsSubducing, IsTermTaken}
use Rattle.subduction.specs.laws.Degrees.{degrees_to}
use Rattle.subduction.proofs.Steps.{after_rest, after_word}
use Rattle.subduction.proofs.Elements.{degree_is, monic_elements, places_is, standard_not_zero}

-- at most d, as a test
abbrev pub up_to : ℕ → ℕ → Bool
up_to d n = nat_le n d

pub up_to_true : (d n : ℕ) → n ≤ d → up_to d n ≡ true
up_to_true d n l = le-leb n d l

pub up_to_le : (d n : ℕ) → up_to d n ≡ true → n ≤ d
up_to_le d n h = leb-true n d h

module _ {E : Type 0} (P : Presented E) (H : IsPresentation P) where
  open P use {field as K, order as O}
  open H use {field as F', order as L}

  module _ {F : Type 0} (b : BasisState F E) (B : IsBasisOf P b) (a : Polynomial E) (ka : IsCanonical K O a) (words done : Polynomial E) (t : Term E) (w : Polynomial E) (h : IsSubducing P (values_of b.elements) a words done (t ∷ w)) where
    abbrev S : List (Polynomial E)
    S = values_of b.elements

    pub term_standard : IsStandard P t.at
    term_standard = (AllAt-right (IsStandard P) done (t ∷ w) h.standard).0

    pub term_degree : O.degree t.at ≤ degree_of O a
    term_degree =
        let Q = up_to (degree_of O a) in
        up_to_le (degree_of O a) (O.degree t.at)
        (AllAt-right (λ m. Q (O.degree m) ≡ true) done (t ∷ w) (h.degrees Q (λ m n. up_to_true (degree_of O a) (O.degree m) (degrees_to P H a ka m n))).0).0

    pub work_canonical : IsCanonical K O (t ∷ w)
    work_canonical = canonical_right K O done (t ∷ w) h.canonical

    pub term_reach : IsInReach P b a → (O.degree t.at ≤ b.words.degree) ⊎ IsKnownClosed b
    term_reach r =
        let d = term_degree in
        ⊎_elim (λ l. inl (omega arith)) (λ c. inr c) r

    pub term_small : degree_of O a ≤ 30000 → O.degree t.at ≤ 30000
    term_small l = let d = term_degree in omega arith

    -- what the term becomes
    module _ (r more rest : Polynomial E) (k : IsTermTaken P S t w r words more done rest) where
      pub after_term : IsSubducing P S a more rest r
      after_term =
          ⊎_elim
          (λ x. subst (λ v. IsSubducing P S a v rest r) (sym x.2) (subst (λ v. IsSubducing P S a (words ++ term_of x.0 t.by ∷ []) v r) (sym x.3) (after_word P H S a words done t w h x.0 r x.1)))
          (λ y. subst (IsSubducing P S a more rest) (sym y.3) (subst (λ v. IsSubducing P S a v rest w) (sym y.2) (subst (λ v. IsSubducing P S a words v w) (sym y.1) (after_rest P H S a words done t w h y.0)))) k

      pub term_falls : height O r < height O (t ∷ w)
      term_falls =
          ⊎_elim (λ x. height_less K O L t w r x.1.taken.canonical x.1.taken.below) (λ y. subst (λ v. height O v < height O (t ∷ w)) (sym y.3) (height_rest K O L t w work_canonical)) k

  module _ {F : Type 0} (b : BasisState F E) (B : IsBasisOf P b) (t : Term E) (standard : IsStandard P t.at) (u : Exponents) (k : IsLeast (letters P (values_of b.elements)) t.at u) where
    abbrev V : List (Polynomial E)
    V = values_of b.elements

    -- the word has the degree of the term
    pub word_degree_is : word_degree P V u ≡ O.degree t.at
    word_degree_is =
        let e = degree_image (letters P V) areletters u in
        let f = degree_x (letters P V) areletters t.at (subst (λ n. IsMonomial n t.at) (sym (places_x)) standard.monomial) in
        sym e ∙ (ap (word_order_of (letters P V)).degree k.image ∙ (f ∙ degree_weighted O L t.at standard.monomial))
      where
        areletters : AreLetters (letters P V)
        areletters = subst AreLetters B.letters B.words.letters

        places_x : length (map O.degree (variables 0 O.places)) ≡ O.places
        places_x = length-map (variables 0 O.places) O.degree ∙ length-variables 0 O.places

    pub word_small : O.degree t.at ≤ 30000 → word_degree P V u ≤ 65535
    word_small l = let e = word_degree_is in omega arith

    pub word_reach : (O.degree t.at ≤ b.words.degree) ⊎ IsKnownClosed b → (word_degree P V u ≤ b.quotient.degree) ⊎ (b.quotient.closed ≡ true)
    word_reach r =
        let e = word_degree_is in
        let q = B.degree in
        ⊎_elim (λ l. inl (omega arith)) (λ c. inr c.quotient) r

  module _ {F : Type 0} (b : BasisState F E) (B : IsBasisOf P b) (m : Exponents) where
    pub factor_monomial : IsStandard P m → IsMonomial (length b.words.letters.degrees) m
    factor_monomial h = subst (λ n. IsMonomial n m) (sym (places_is P H b B)) h.monomial

    pub factor_standard : IsStandard P m → ¬ IsMultiple b.words.zeros m
    factor_standard h = standard_not_zero P H b B m h

    pub decided : IsStandard P m → O.degree m ≤ degree_max → (O.degree m ≤ b.words.degree) ⊎ (b.words.closed ≡ true) →
        IsDecided b.words (weighted_degree b.words.letters.degrees m)
    decided h small r =
        let e = degree_is P H b B m h.monomial in
        let s : weighted_degree b.words.letters.degrees m ≤ exponent_max = omega arith in
        ⊎_elim (λ l. inl (let q : weighted_degree b.words.letters.degrees m ≤ b.words.degree = omega arith in q)) (λ c. inr (c, s)) r

    pub not_generated : ForMonicElements E ProductsAreImages → ((u : Exponents) → IsSWord b.words.letters u → image_of b.words.letters u ≢ m) → ¬ IsGenerated (map lead_monomial (values_of b.elements)) m
    not_generated law none g =
        let r = (law P (values_of b.elements) H (monic_elements P H b B) m).0 g in
        subst (λ M. (u : Exponents) → IsSWord M u → image_of M u ≢ m) B.letters none r.0 r.1 r.2
