-- The value of a word from that of the word without a letter.
use Rattle.std.proofs.Common.{◌≡◌, ◌≢◌, ℕ, ◌+◌, ◌-◌, ◌<◌, ◌≤◌, sym, ◌∙◌, ap, subst, List, [], ◌∷◌, ◌++◌, length, get_or, ⊎_elim, arith}
use Rattle.std.specs.Prelude.{All}
use Rattle.std.proofs.lemmas.List.Elements.{All-tail, Contains-get_or}
use Rattle.monomial_order.specs.Monomial.{Exponents, product, variable, IsMonomial}
use Rattle.polynomials.specs.Polynomial.{Polynomial, coefficient, Same, times, constant, term_of, IsPoly, IsCanonical, IsDecreasing, IsSmall, degree_of, lead_monomial, AllAt}
use Rattle.polynomials.specs.Ideal.{Congruent}
use Rattle.polynomials.specs.Subalgebra.{Presented, IsPresentation, IsNormalForm, IsStandard}
use Rattle.polynomials.specs.laws.Coefficients.{nothing_at, decreasing_leads, single_term}
use Rattle.polynomials.specs.laws.Congruence.{congruent_same, congruent_refl, congruent_trans, congruent_times_left}
use Rattle.polynomials.specs.laws.Decreasing.{IsDecreasing_IsPoly}
use Rattle.polynomials.specs.laws.Degrees.{all_found, decreasing_all, graded_times}
use Rattle.polynomials.specs.laws.NormalForm.{normal_form_homogeneous, normal_form_unique}
use Rattle.polynomials.specs.laws.Same.{times_same_left}
use Rattle.polynomials.specs.laws.Terms.{poly_monomials, small_times}
use Rattle.polynomials.specs.laws.Value.{monomial_value-product}
use Rattle.monomial_order.specs.laws.Comparing.{degree_one}
use Rattle.subalgebra_laws.specs.Words.{letters, letter_values, word_value}
use Rattle.subalgebra_laws.specs.laws.Letters.{letter_degrees, letter_at, letter_value}
use Rattle.word_values.specs.Values.{IsHomogeneousElement, AreHomogeneousElements, IsWordValue, word_degree}
use Rattle.monomial_order.specs.laws.Monomial.{weighted_nil}
use Rattle.word_laws.specs.Words.{lead_degrees}
use Rattle.word_values.specs.laws.Letters.{product_degree, letter_degree}

-- what each item says of itself, and what is known of each monomial
all_together : {E : Type 0} (Q R : Exponents → Type 0) (p : Polynomial E) → AllAt Q p → All (λ t. Q t.at → R t.at) p → AllAt R p
all_together Q R [] q h = tt
all_together Q R (t ∷ p) q h =
    (h 0 t (omega arith) q.0, all_together Q R p q.1 (All-tail (λ x. Q x.at → R x.at) t p h))

-- 1 as a polynomial of the program
pub one_canonical : {E : Type 0} (P : Presented E) → IsPresentation P → IsCanonical P.field P.order (constant P.field P.field.one)
one_canonical P H = record {
  decreasing = (record { term = record { monomial = record { trimmed = tt; within = omega arith }; value = H.field.one_value }; nonzero = H.field.one_not_zero; above = tt }, tt);
  small = (let z = degree_one P.order H.order in omega arith, tt);
}

module _ {E : Type 0} (P : Presented E) (H : IsPresentation P) where
  open P use {field as K, order as O}
  open H use {field as F, order as L}

  -- a polynomial with standard monomials is its own normal form
  pub own_normal_form : (a : Polynomial E) (Known : Exponents → Type 0) → IsDecreasing K O a →
      ((m : Exponents) → coefficient K a m ≢ K.zero → Known m) →
      All (λ t. IsMonomial O.places t.at × Known t.at → IsStandard P t.at) a → IsNormalForm P a a
  own_normal_form a Known d k h =
      let poly : IsPoly K O.places a = IsDecreasing_IsPoly K O a d in
      record {
        poly = poly;
        inside = congruent_refl K F O.places P.ideal a;
        standard = all_found K F O L (IsStandard P) a
            (all_together (λ m. IsMonomial O.places m × Known m) (IsStandard P) a
            (decreasing_all K F O L (λ m. IsMonomial O.places m × Known m) a d
            (λ m z. (all_found K F O L (IsMonomial O.places) a (poly_monomials K O.places a poly) m z, k m z))) h);
      }

  -- the normal form of a homogeneous polynomial, or of zero
  pub normal_graded : (d : ℕ) (r b : Polynomial E) → IsDecreasing K O r → ((m : Exponents) → coefficient K r m ≢ K.zero → O.degree m ≡ d) → IsNormalForm P r b →
      (m : Exponents) → coefficient K b m ≢ K.zero → O.degree m ≡ d
  normal_graded d [] b dr g n m k =
      absurd (k (normal_form_unique P H [] b [] n
      (record { poly = tt; inside = congruent_refl K F O.places P.ideal []; standard = λ i z. absurd (z (sym (nothing_at K i))) }) m ∙ sym (nothing_at K m)))
  normal_graded d (t ∷ p) b dr g n m k =
      ⊎_elim (λ z. absurd (k (z m ∙ sym (nothing_at K m)))) (λ h. h.each m k)
      (normal_form_homogeneous P H (t ∷ p) b n d (record { some = (t.at, (decreasing_leads K F O L (t ∷ p) dr (λ i. cc)).nonzero); each = g }))

  -- the value of the word 1 is the normal form of 1
  pub one_is_value : (S : List (Polynomial E)) (r : Polynomial E) → r ≡ term_of [] K.one ∷ [] → (b : Polynomial E) → IsCanonical K O b → IsNormalForm P r b → IsWordValue P S [] b
  one_is_value S r e b c n = record {
    canonical = c;
    normal = subst (λ a. IsNormalForm P a b) e n;
    graded = λ m k.
        normal_graded 0 (constant K K.one) b (one_canonical P H).decreasing (λ i z. ap O.degree (sym (single_term K F [] K.one i z)) ∙ degree_one O L) (subst (λ a. IsNormalForm P a b) e n) m k ∙
        sym (weighted_nil (letter_degrees P S ++ lead_degrees (letters P S)));
  }

module _ {E : Type 0} (P : Presented E) (H : IsPresentation P) (S : List (Polynomial E)) (hs : AreHomogeneousElements P S) where
  open P use {field as K, order as O}
  open H use {field as F, order as L}

  -- the letter of an element has it for its value
  place_value : (j : ℕ) → j < length S → Same K (word_value P S (variable (O.places + j))) (get_or S j [])
  place_value j l = subst (λ w. Same K (word_value P S w) (get_or S j [])) (letter_at P S j) (letter_value P S j l F)

  module _ (j : ℕ) (l : j < length S) (v : Exponents) (a : Polynomial E) (h : IsWordValue P S v a) where
    abbrev s : Polynomial E
    s = get_or S j []

    abbrev w : Exponents
    w = product (variable (O.places + j)) v

    pub element_is : IsHomogeneousElement P s
    element_is = hs s (Contains-get_or S j [] l)

    whole_degree : word_degree P S w ≡ O.degree (lead_monomial s) + word_degree P S v
    whole_degree = product_degree P S (variable (O.places + j)) v ∙ ap (λ d. d + word_degree P S v) (letter_degree P S H hs j l)

    poly_s : IsPoly K O.places s
    poly_s = IsDecreasing_IsPoly K O s element_is.canonical.decreasing

    poly_a : IsPoly K O.places a
    poly_a = IsDecreasing_IsPoly K O a h.canonical.decreasing

    -- the product is one that the program can compute
    pub product_small : word_degree P S w ≤ 65535 → IsSmall O (times K s a)
    product_small le =
        small_times K O L s a (O.degree (lead_monomial s)) (word_degree P S v)
        (decreasing_all K F O L (λ m. O.degree m ≤ O.degree (lead_monomial s)) s element_is.canonical.decreasing (λ m k. let e = element_is.homogeneous.each m k in omega arith))
        (decreasing_all K F O L (λ m. O.degree m ≤ word_degree P S v) a h.canonical.decreasing (λ m k. let e = h.graded m k in omega arith))
        (let e = whole_degree in omega arith)

    module _ (r : Polynomial E) (same : Same K r (times K s a)) where
      pub product_graded : (m : Exponents) → coefficient K r m ≢ K.zero → O.degree m ≡ word_degree P S w
      product_graded m k =
          graded_times K F O L s a (O.degree (lead_monomial s)) (word_degree P S v) poly_s poly_a element_is.homogeneous.each h.graded m (λ z. k (same m ∙ z)) ∙ sym whole_degree

      -- its degree is known
      pub product_degree_to : IsDecreasing K O r → (c : ℕ) → word_degree P S w ≤ c → degree_of O r ≤ c
      product_degree_to = by_list r same product_graded
        where
          by_list : (r : Polynomial E) → Same K r (times K s a) → ((m : Exponents) → coefficient K r m ≢ K.zero → O.degree m ≡ word_degree P S w) → IsDecreasing K O r → (c : ℕ) → word_degree P S w ≤ c → degree_of O r ≤ c
          by_list [] e g d c le = let z = degree_one O L in omega arith
          by_list (t ∷ p) e g d c le = let x = g t.at (decreasing_leads K F O L (t ∷ p) d (λ i. cc)).nonzero in omega arith

      -- and its normal form is the value
      pub product_value : IsDecreasing K O r → (b : Polynomial E) → IsCanonical K O b → IsNormalForm P r b → IsWordValue P S w b
      product_value dr b c n = record {
        canonical = c;
        normal = record {
          poly = n.poly;
          inside = congruent_trans K F O.places P.ideal (word_value P S w) r b congruent n.inside;
          standard = n.standard;
        };
        graded = normal_graded P H (word_degree P S w) r b dr product_graded n;
      }
        where
          congruent : Congruent K O.places P.ideal (word_value P S w) r
          congruent =
              congruent_trans K F O.places P.ideal (word_value P S w) (times K s (word_value P S v)) r
              (congruent_same K F O.places P.ideal (word_value P S w) (times K s (word_value P S v))
              (λ m. monomial_value-product K F (variable (O.places + j)) v (letter_values P S) m ∙
              times_same_left K F (word_value P S (variable (O.places + j))) s (word_value P S v) (place_value j l) m))
              (congruent_trans K F O.places P.ideal (times K s (word_value P S v)) (times K s a) r
              (congruent_times_left K F O.places P.ideal s (word_value P S v) a poly_s h.normal.inside)
              (congruent_same K F O.places P.ideal (times K s a) r (λ m. sym (same m))))

  -- the value of a letter is the element
  pub letter_is_value : (j : ℕ) → j < length S → IsWordValue P S (variable (O.places + j)) (get_or S j [])
  letter_is_value j l =
      let s = get_or S j [] in
      let h = hs s (Contains-get_or S j [] l) in
      record {
        canonical = h.canonical;
        normal = record {
          poly = IsDecreasing_IsPoly K O s h.canonical.decreasing;
          inside = congruent_same K F O.places P.ideal (word_value P S (variable (O.places + j))) s (place_value j l);
          standard = h.standard;
        };
        graded = λ m k. h.homogeneous.each m k ∙ sym (letter_degree P S H hs j l);
      }

  -- and so is what a letter stands for
  pub single_is_value : (w : Exponents) (i : ℕ) (v : Polynomial E) → O.places ≤ i → i < O.places + length S → w ≡ variable i →
      ((j : ℕ) → i ≡ O.places + j → v ≡ get_or S j []) → IsWordValue P S w v
  single_is_value w i v f l e at =
      let j = i - O.places in
      let k : i ≡ O.places + j = omega arith in
      subst (λ u. IsWordValue P S u v) (sym e)
      (subst (λ n. IsWordValue P S (variable n) v) (sym k) (subst (IsWordValue P S (variable (O.places + j))) (sym (at j k)) (letter_is_value j (omega arith))))
