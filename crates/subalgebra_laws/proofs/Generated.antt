-- Products of leads are images of s-words, and the values of s-words are members of the subalgebra.
use Rattle.std.proofs.Common.{◌≡◌, ◌≢◌, ℕ, zero, suc, ◌+◌, ◌-◌, ◌<◌, ◌≤◌, refl, sym, ◌∙◌, ap, subst, List, [], ◌∷◌, ⊎_elim, length, get_or, arith}
use Rattle.std.specs.Prelude.{map}
use Rattle.std.proofs.lemmas.List.{get_or_default}
use Rattle.std.proofs.lemmas.List.Elements.{Contains-get_or}
use Rattle.monomial_order.specs.Monomial.{product, variable, Divides}
use Rattle.monomial_order.specs.laws.Lists.{contains_map, map_contains}
use Rattle.monomial_order.specs.laws.Monomial.{product_comm, product-one, variable_divides, variable_trimmed}
use Rattle.monomial_order.specs.laws.Cofactors.{cofactor, Divides-product, length-product_right}
use Rattle.monomial_order.specs.laws.Comparing.{le_or_not, equal_or_not, some_exponent}
use Rattle.word_laws.specs.Words.{word_order_of, image_of, IsSWord}
use Rattle.word_laws.specs.laws.Words.{image_times, s_divisor}
use Rattle.polynomials.specs.Polynomial.{Polynomial, times, constant, AllAt, IsPoly, IsLead, lead_monomial}
use Rattle.polynomials.specs.Value.{value, term_value}
use Rattle.polynomials.specs.Subalgebra.{Presented, IsPresentation, InSubalgebra, IsGenerated, AllIn, product_of}
use Rattle.polynomials.specs.laws.ReducedBasis.{generated_times}
use Rattle.polynomials.specs.laws.Value.{value_same, monomial_value-product}
use Rattle.polynomials.specs.laws.Decreasing.{IsDecreasing_IsPoly}
use Rattle.polynomials.specs.laws.Canonical.{canonical}
use Rattle.polynomials.specs.laws.Degrees.{decreasing_all}
use Rattle.polynomials.specs.laws.Congruence.{congruent_same}
use Rattle.polynomials.specs.laws.Membership.{sub_plus, sub_times, sub_congruent}
use Rattle.subalgebra_laws.specs.Words.{letters, letter_values, word_value}
use Rattle.subalgebra_laws.specs.Bases.{AreMonicElements, AreMembers}
use Rattle.subalgebra_laws.specs.laws.Members.{sub_constant, sub_zero}
use Rattle.subalgebra_laws.specs.Statements.{SWordsAreMembers, SumsOfSWordsAreMembers, StandardProductsLead}
use Rattle.subalgebra_laws.specs.laws.Letters.{none_before, letter_degrees, places_letters, s_one, s_product, letter, letter_word, letter_value}
use Rattle.subalgebra_laws.proofs.Letters.{letter_laws, are_letters, letter_image, word_monic}
use Rattle.polynomials.specs.laws.Coefficients.{constant_poly}
use Rattle.subalgebra_laws.proofs.MonicProducts.{monic_lead}

module _ {E : Type 0} (P : Presented E) (H : IsPresentation P) where
  module _ (S : List (Polynomial E)) (HS : AreMonicElements P S) where
    abbrev im : List ℕ → List ℕ
    im w = image_of (letters P S) w

    -- s-words are products of letters
    pub by_letters : (Q : List ℕ → Type 0) → Q [] → ((j : ℕ) (v : List ℕ) → j < length S → Q v → Q (product (letter P S j) v)) → (w : List ℕ) → IsSWord (letters P S) w → Q w
    by_letters Q one more w hw = below ((word_order_of (letters P S)).degree w) w hw (omega arith)
      where
        -- an s-word other than 1 is a letter times an s-word of less degree
        part : (w : List ℕ) → IsSWord (letters P S) w → w ≢ [] →
            (j : ℕ) × (j < length S) × (v : List ℕ) × IsSWord (letters P S) v × ((word_order_of (letters P S)).degree v < (word_order_of (letters P S)).degree w) × (product (letter P S j) v ≡ w)
        part w hw ne =
            let x = some_exponent w hw.0.trimmed ne in
            let x1 = x.1 in
            let x2 = x.2 in
            let late : length (letter_degrees P S) ≤ x.0 = ⊎_elim (λ le. le) (λ n. absurd (let z = none_before (length (letter_degrees P S)) w hw.1 x.0 (omega (arith, n)) in omega arith)) (le_or_not (length (letter_degrees P S)) x.0) in
            let at : length (letter_degrees P S) + (x.0 - length (letter_degrees P S)) ≡ x.0 = omega arith in
            let k = cofactor (variable x.0) w (variable_trimmed x.0) hw.0.trimmed (variable_divides x.0 w x.2) in
            let long = length-product_right (variable x.0) k.0 in
            let whole : length (product (variable x.0) k.0) ≡ length w = ap length k.2 in
            let most = hw.0.within in
            let p = places_letters P S in
            let d = (letter_laws P H S HS).degree_product (variable x.0) k.0 in
            let dw : (word_order_of (letters P S)).degree (product (variable x.0) k.0) ≡ (word_order_of (letters P S)).degree w = ap (word_order_of (letters P S)).degree k.2 in
            let pos = (letter_laws P H S HS).degree_positive x.0 (omega arith) in (
              x.0 - length (letter_degrees P S),
              omega arith,
              k.0,
              s_divisor (letters P S) (are_letters P H S HS) k.0 w (record { trimmed = k.1; within = omega arith }) hw (subst (Divides k.0) (product_comm k.0 (variable x.0) ∙ k.2) (Divides-product k.0 (variable x.0))),
              omega arith,
              ap (λ i. product (variable i) k.0) at ∙ k.2,
            )

        below : (n : ℕ) (w : List ℕ) → IsSWord (letters P S) w → (word_order_of (letters P S)).degree w ≤ n → Q w
        below zero w hw le = ⊎_elim (λ e. subst Q (sym e) one) (λ ne. absurd (let r = part w hw ne in let l = r.4 in omega arith)) (equal_or_not w [])
        below (suc n) w hw le = ⊎_elim (λ e. subst Q (sym e) one)
            (λ ne. let r = part w hw ne in let l = r.4 in subst Q r.5 (more r.0 r.2 r.1 (below n r.2 r.3 (omega arith)))) (equal_or_not w [])

    -- the images of s-words are the products of leads
    pub generated_images : (m w : List ℕ) → IsSWord (letters P S) w → im w ≡ m → IsGenerated (map lead_monomial S) m
    generated_images m w h e = subst (IsGenerated (map lead_monomial S)) e (by_letters (λ v. IsGenerated (map lead_monomial S) (im v)) (record { factors = []; members = tt; product = refl })
        (λ j v l g. subst (IsGenerated (map lead_monomial S)) (sym (image_times (letters P S) (are_letters P H S HS) (letter P S j) v ∙ ap (λ x. product x (im v)) (letter_image P S j l)))
        (generated_times (map lead_monomial S) (lead_monomial (get_or S j [])) (im v)
        (record { factors = lead_monomial (get_or S j []) ∷ []; members = (contains_map lead_monomial S (get_or S j []) (Contains-get_or S j [] l), tt); product = product-one (lead_monomial (get_or S j [])) }) g)) w h)

    pub images_generated : (m : List ℕ) → IsGenerated (map lead_monomial S) m → (w : List ℕ) × IsSWord (letters P S) w × (im w ≡ m)
    images_generated m g = let w = of_factors g.factors g.members in (w.0, w.1, w.2 ∙ g.product)
      where
        of_factors : (ms : List (List ℕ)) → AllIn (map lead_monomial S) ms → (w : List ℕ) × IsSWord (letters P S) w × (im w ≡ product_of ms)
        of_factors [] h = ([], s_one P S, refl)
        of_factors (k ∷ ms) h =
            let b = of_factors ms h.1 in
            let s = map_contains lead_monomial S k h.0 in
            let l = s.1.1 in
            let e : lead_monomial (get_or S s.1.0 []) ≡ k = ap lead_monomial (get_or_default S s.1.0 [] s.0 l ∙ s.1.2) ∙ s.2 in (
              product (letter P S s.1.0) b.0,
              s_product P S (letter P S s.1.0) b.0 (letter_word P S s.1.0 l) b.1,
              image_times (letters P S) (are_letters P H S HS) (letter P S s.1.0) b.0 ∙ (ap (λ x. product x (im b.0)) (letter_image P S s.1.0 l ∙ e) ∙ ap (product k) b.2),
            )

    module _ (inside : AreMembers P S) where
      -- values of s-words are members
      pub word_sub : SWordsAreMembers P S
      word_sub = by_letters (λ v. InSubalgebra P (word_value P S v)) (sub_constant P H P.field.one H.field.one_value)
          (λ j v l h.
          let one = word_monic P H S HS (letter P S j) in
          sub_congruent P H (times P.field (word_value P S (letter P S j)) (word_value P S v)) (word_value P S (product (letter P S j) v))
          (sub_times P H (word_value P S (letter P S j)) (word_value P S v) one.poly
          (sub_congruent P H (get_or S j []) (word_value P S (letter P S j)) (inside (get_or S j []) (Contains-get_or S j [] l))
          (congruent_same P.field H.field P.order.places P.ideal (word_value P S (letter P S j)) (get_or S j []) (letter_value P S j l H.field))) h)
          (congruent_same P.field H.field P.order.places P.ideal (word_value P S (product (letter P S j) v)) (times P.field (word_value P S (letter P S j)) (word_value P S v))
          (monomial_value-product P.field H.field (letter P S j) v (letter_values P S))))

      terms_sub : (e : Polynomial E) → IsPoly P.field (word_order_of (letters P S)).places e → AllAt (IsSWord (letters P S)) e → InSubalgebra P (value P.field e (letter_values P S))
      terms_sub [] hp h = sub_zero P H
      terms_sub (t ∷ e) hp h =
          sub_plus P H (term_value P.field (letter_values P S) t) (value P.field e (letter_values P S))
          (sub_times P H (constant P.field t.by) (word_value P S t.at) (constant_poly P.field H.field P.order.places t.by hp.0.value) (sub_constant P H t.by hp.0.value) (word_sub t.at h.0))
          (terms_sub e hp.1 h.1)

      -- the value of a sum of s-words is a member: that of its canonical form is
      pub value_sub : SumsOfSWordsAreMembers P S
      value_sub e hp h =
          let q = canonical P.field H.field (word_order_of (letters P S)) (letter_laws P H S HS) e hp in
          sub_congruent P H (value P.field q.0 (letter_values P S)) (value P.field e (letter_values P S))
          (terms_sub q.0 (IsDecreasing_IsPoly P.field (word_order_of (letters P S)) q.0 q.1.decreasing)
          (decreasing_all P.field H.field (word_order_of (letters P S)) (letter_laws P H S HS) (IsSWord (letters P S)) q.0 q.1.decreasing (λ w k. h w (λ z. k (q.1.same w ∙ z)))))
          (congruent_same P.field H.field P.order.places P.ideal (value P.field e (letter_values P S)) (value P.field q.0 (letter_values P S))
          (λ m. sym (value_same P.field H.field q.0 e (letter_values P S) q.1.same m)))

      -- standard products of leads of members are leads of the subalgebra
      pub generated_leads : StandardProductsLead P S
      generated_leads m st g =
          let w = images_generated m g in
          let mono = word_monic P H S HS w.0 in
          record {
            standard = st;
            member = word_value P S w.0;
            poly = mono.poly;
            inside = word_sub w.0 w.1;
            leads = subst (IsLead P.field P.order (word_value P S w.0)) w.2 (monic_lead P.field H.field P.order H.order (word_value P S w.0) (im w.0) mono);
          }
