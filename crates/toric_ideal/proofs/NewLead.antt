-- One lead more: its letter is irreducible, and with a rule for the least word of the lead the rules generate as before.
use Rattle.std.proofs.Common.{◌≡◌, ◌≢◌, ℕ, ◌+◌, ◌≤◌, sym, ◌∙◌, ap, subst, List, [], ◌∷◌, length, arith, ◌⊎◌, inl, inr, ⊎_elim, Some, None}
use Rattle.std.specs.Prelude.{Contains}
use Rattle.monomial_order.specs.Monomial.{Exponents, Divides, IsMonomial, IsMultiple}
use Rattle.monomial_order.specs.laws.Cofactors.{Divides-trans}
use Rattle.monomial_order.specs.laws.Comparing.{degree_falls, equal_or_not, proper_divisor, three_ways}
use Rattle.monomial_order.specs.laws.Lists.{contains_one}
use Rattle.word_laws.specs.Words.{Letters, AreLetters, word_order_of, image_of, IsWord, IsLeast, IsSmaller, IsReducible}
use Rattle.word_laws.specs.laws.Words.{word_laws, degree_image, degree_same, degree_x, image_x}
use Rattle.word_rewriting.specs.Rewriting.{WordOrZero, RewriteRule, HasLeftDivisor, IsInNormalForm}
use Rattle.word_rewriting.specs.Completeness.{lead_letter, with_leads, AreRewriteRules, IsRightSide, GeneratesReducible}
use Rattle.word_rewriting.specs.Renumbering.{AreLastLeads}
use Rattle.word_rewriting.specs.laws.NormalForms.{divided_reducible}
use Rattle.word_laws.specs.laws.Reducible.{multiple_closed}
use Rattle.word_rewriting.specs.laws.MoreLeads.{compare_stays, image_stays, smaller_stays, word_stays, new_image, new_letter_smaller}
use Rattle.word_rewriting.specs.laws.Renumbering.{last_letters, word_cases, in_x_not_one, last_irreducible}
use Rattle.toric_ideal.specs.Rewriting.{AreExactRules}
use Rattle.toric_ideal.specs.Step.{IsWithLetter}

module _ (L : Letters) (H : AreLetters L) (Z : List Exponents) (d : ℕ) (m : Exponents) (K : AreLastLeads L d (m ∷ [])) (R : List RewriteRule) (exact : AreExactRules L Z d R)
    (w : Exponents) (least : IsLeast L m w) (standard : ¬ IsMultiple Z m) where
  abbrev M : Letters
  M = with_leads L (m ∷ [])

  abbrev letter : Exponents
  letter = lead_letter L (length L.leads + 0)

  HM : AreLetters M
  HM = last_letters L H d (m ∷ []) K

  new : (x : Exponents) → Contains (m ∷ []) x → IsMonomial (length L.degrees) x × (x ≢ [])
  new = in_x_not_one L H d (m ∷ []) K

  letter_image : image_of M letter ≡ m
  letter_image = new_image L H (m ∷ []) new 0

  -- a word with the degree of L has it in M
  pub degree_stays : (v : Exponents) → IsWord L v → (word_order_of M).degree v ≡ (word_order_of L).degree v
  degree_stays v k =
      sym (degree_image M HM v) ∙ (ap (word_order_of M).degree (image_stays L (m ∷ []) v k) ∙
      (degree_x M HM (image_of L v) (image_x L H v) ∙ (sym (degree_x L H (image_of L v) (image_x L H v)) ∙ degree_image L H v)))

  pub letter_irreducible : IsReducible (IsMultiple Z) M letter → ⊥
  letter_irreducible = last_irreducible L H d (m ∷ []) K (IsMultiple Z) (λ x k z. standard (subst (IsMultiple Z) (sym (contains_one m x k)) z)) 0 (omega arith)

  -- a word of L other than w that is reducible in M is reducible in L
  older_reducible : (v : Exponents) → IsWord L v → v ≢ w → (word_order_of M).degree v ≤ d → IsReducible (IsMultiple Z) M v → IsReducible (IsMultiple Z) L v
  older_reducible v k ne dv r = ⊎_elim (λ z. inl (subst (IsMultiple Z) (image_stays L (m ∷ []) v k) z)) (λ s. inr (smaller s.0 s.1)) r
    where
      same_image : image_of L v ≡ m → (x : Exponents) × IsSmaller L v x
      same_image e = (
        w,
        record {
          word = least.word;
          image = least.image ∙ sym e;
          less = ⊎_elim (λ l. l) (λ b. ⊎_elim (λ q. absurd (ne (sym q))) (λ g. absurd (least.least v (record { word = k; image = e ∙ sym least.image; less = g }))) b) (three_ways (word_order_of L) (word_laws L H) w v);
        },
      )

      smaller : (x : Exponents) → IsSmaller M v x → (y : Exponents) × IsSmaller L v y
      smaller x s =
          let e = degree_same M HM x v s.image in
          ⊎_elim
          (λ h. (
            x,
            record {
              word = h;
              image = sym (image_stays L (m ∷ []) x h) ∙ (s.image ∙ image_stays L (m ∷ []) v k);
              less = sym (compare_stays L (m ∷ []) x v h k) ∙ s.less;
            },
          ))
          (λ j.
          let z : j.0 ≡ 0 = let b = j.1 in omega arith in
          let q : x ≡ letter = j.2 ∙ ap (λ i. lead_letter L (length L.leads + i)) z in
          same_image (sym (image_stays L (m ∷ []) v k) ∙ (sym s.image ∙ (ap (image_of M) q ∙ letter_image))))
          (word_cases L H d (m ∷ []) K x s.word (omega arith))

  pub lead_generates : (S : List RewriteRule) → ((r : RewriteRule) → Contains R r → HasLeftDivisor S r.left) → HasLeftDivisor S w → GeneratesReducible (IsMultiple Z) M S d
  lead_generates S lefts hw v hv dv r =
      ⊎_elim
      (λ k. ⊎_elim (λ e. subst (HasLeftDivisor S) (sym e) hw)
      (λ ne.
      let e = degree_stays v k in
      let x = exact.generates v k (omega arith) (older_reducible v k ne dv r) in
      let y = lefts x.0 x.1 in
      (y.0, y.1, Divides-trans y.0.left x.0.left v y.2 x.2))
      (equal_or_not v w))
      (λ j.
      let z : j.0 ≡ 0 = let b = j.1 in omega arith in
      absurd (letter_irreducible (subst (IsReducible (IsMultiple Z) M) (j.2 ∙ ap (λ i. lead_letter L (length L.leads + i)) z) r)))
      (word_cases L H d (m ∷ []) K v hv dv)

  module _ (S : List RewriteRule) (dw : (word_order_of L).degree w ≡ d) (x : IsWithLetter w letter R S) where
    letter_side : (u : Exponents) → IsWord L u → image_of L u ≡ m → IsRightSide (IsMultiple Z) M u (Some letter)
    letter_side u hu e = new_letter_smaller L H (m ∷ []) new 0 (omega arith) u hu e

    old_side : (u : Exponents) (a : WordOrZero) → IsWord L u → IsRightSide (IsMultiple Z) L u a → IsRightSide (IsMultiple Z) M u a
    old_side u None hu h = subst (IsMultiple Z) (sym (image_stays L (m ∷ []) u hu)) h
    old_side u (Some v) hu h = smaller_stays L (m ∷ []) u v hu h

    lead_rules : AreRewriteRules (IsMultiple Z) M S
    lead_rules s h =
        ⊎_elim
        (λ k.
        let r = exact.rules k.0 k.1 in
        subst (λ u. IsWord M u × IsRightSide (IsMultiple Z) M u s.right) (sym k.2) (
          word_stays L (m ∷ []) k.0.left r.0,
          ⊎_elim (λ y. subst (IsRightSide (IsMultiple Z) M k.0.left) (sym y.0) (old_side k.0.left k.0.right r.0 r.1))
              (λ y. subst (IsRightSide (IsMultiple Z) M k.0.left) (sym y.1)
              (let q : IsSmaller L k.0.left w = subst (IsRightSide (IsMultiple Z) L k.0.left) y.0 r.1 in letter_side k.0.left r.0 (sym q.image ∙ least.image))) k.3,
        ))
        (λ k. subst (λ u. IsWord M u × IsRightSide (IsMultiple Z) M u s.right) (sym k.0)
        (word_stays L (m ∷ []) w least.word, subst (IsRightSide (IsMultiple Z) M w) (sym k.1) (letter_side w least.word least.image)))
        (x.each s h)

    pub lead_exact_generates : AreRewriteRules (IsMultiple Z) M S × GeneratesReducible (IsMultiple Z) M S d
    lead_exact_generates = (
      lead_rules,
      lead_generates S (λ r h. let y = x.all r h in (y.0, y.1, subst (λ u. Divides u r.left) (sym y.2) (λ i. omega arith))) (x.new.0, x.new.1, subst (λ u. Divides u w) (sym x.new.2) (λ i. omega arith)),
    )

    left_of : (s : RewriteRule) → Contains S s → ((r : RewriteRule) × Contains R r × (s.left ≡ r.left)) ⊎ (s.left ≡ w)
    left_of s h = ⊎_elim (λ k. inl (k.0, k.1, k.2)) (λ k. inr k.0) (x.each s h)

    none_divides : (r : RewriteRule) → Contains R r → Divides r.left w → ⊥
    none_divides r h e =
        ⊎_elim (λ z. standard (subst (IsMultiple Z) least.image z)) (λ s. least.least s.0 s.1)
        (divided_reducible (IsMultiple Z) L H R exact.rules (multiple_closed (length L.degrees) Z) w least.word (r, h, e))

    letter_normal : IsInNormalForm S (Some letter)
    letter_normal e = letter_irreducible (divided_reducible (IsMultiple Z) M HM S lead_rules (multiple_closed (length L.degrees) Z) letter (letter_side w least.word least.image).word e)

    old_normal : (r : RewriteRule) → Contains R r → (a : WordOrZero) → a ≢ Some w → IsInNormalForm R a → IsRightSide (IsMultiple Z) L r.left a → IsInNormalForm S a
    old_normal r h None ne n k = tt
    old_normal r h (Some v) ne n k = λ e.
        let f = degree_falls (word_order_of L) (word_laws L H) v r.left k.less in
        let b = exact.degree r h in
        let g = degree_stays v k.word in
        let red = divided_reducible (IsMultiple Z) M HM S lead_rules (multiple_closed (length L.degrees) Z) v (word_stays L (m ∷ []) v k.word) e in
        n (exact.generates v k.word (omega arith) (older_reducible v k.word (λ q. ne (ap Some q)) (omega arith) red))

    pub lead_exact : AreExactRules M Z d S
    lead_exact = record {
      rules = lead_rules;
      reduced = record {
        right = λ s h.
            ⊎_elim
            (λ k. ⊎_elim
            (λ y. subst (IsInNormalForm S) (sym y.0) (old_normal k.0 k.1 k.0.right y.1 (exact.reduced.right k.0 k.1) (exact.rules k.0 k.1).1))
            (λ y. subst (IsInNormalForm S) (sym y.1) letter_normal) k.3)
            (λ k. subst (IsInNormalForm S) (sym k.1) letter_normal)
            (x.each s h);
        left = λ r s h i e.
            ⊎_elim
            (λ k. ⊎_elim
            (λ n. n.2 ∙ (exact.reduced.left k.0 n.0 k.1 n.1 (subst (λ u. Divides u k.0.left) n.2 (subst (Divides s.left) k.2 e)) ∙ sym k.2))
            (λ q.
            let f : Divides w k.0.left = subst (λ u. Divides u k.0.left) q (subst (Divides s.left) k.2 e) in
            ⊎_elim (λ p. q ∙ (p ∙ sym k.2))
            (λ ne. let p = (proper_divisor (word_order_of L) (word_laws L H) w k.0.left (exact.rules k.0 k.1).0 least.word.trimmed f ne).1 in let b = exact.degree k.0 k.1 in absurd (omega arith))
            (equal_or_not w k.0.left))
            (left_of s i))
            (λ q. ⊎_elim (λ n. absurd (none_divides n.0 n.1 (subst (λ u. Divides u w) n.2 (subst (Divides s.left) q e)))) (λ p. p ∙ sym q) (left_of s i))
            (left_of r h);
      };
      generates = lead_exact_generates.1;
      degree = λ s h.
          ⊎_elim (λ k. let b = exact.degree k.0 k.1 in let g = degree_stays k.0.left (exact.rules k.0 k.1).0 in subst (λ u. (word_order_of M).degree u ≤ d) (sym k.2) (omega arith))
          (λ q. let g = degree_stays w least.word in subst (λ u. (word_order_of M).degree u ≤ d) (sym q) (omega arith)) (left_of s h);
    }
