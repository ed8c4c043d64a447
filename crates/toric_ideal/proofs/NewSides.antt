-- New letters of leads, and right sides with them.
use Rattle.std.proofs.Common.{◌≡◌, ℕ, suc, ◌+◌, ◌<◌, ◌≤◌, refl, sym, ◌∙◌, ap, subst, List, [], ◌∷◌, ◌++◌, length, take, get_or, arith, inl, inr, ⊎_elim, Some}
use Rattle.std.specs.Prelude.{Contains}
use Rattle.std.proofs.lemmas.List.{get_or-drop, get_or_default, length-take-le}
use Rattle.monomial_order.specs.Monomial.{Exponents, variable}
use Rattle.monomial_order.specs.laws.Comparing.{numbers_or_not}
use Rattle.monomial_order.specs.laws.Monomial.{variable_length}
use Rattle.monomial_order.specs.laws.Lists.{contains_at, contains_cases, contains_either, contains_here, contains_left, contains_none, contains_right}
use Rattle.word_rewriting.specs.Rewriting.{RewriteRule}
use Rattle.word_rewriting.specs.Completeness.{lead_letter}
use Rattle.word_rewriting.specs.Renumbering.{IsRenumbered}
use Rattle.word_rewriting.specs.laws.Letters.{places_count}
use Rattle.word_rules.specs.Rules.{rule_at}
use Rattle.toric_ideal.specs.declared.alphabet.Alphabet.{Alphabet}
use Rattle.toric_ideal.specs.declared.renaming.Renaming.{Renaming}
use Rattle.toric_ideal.specs.Renaming.{AreSetBy, AreWithin}
use Rattle.toric_ideal.specs.Settling.{last_leads, lower_letters, AreNewLetters, CanRenumber, HaveNewSides, IsLowerOrLetter, IsNewLetterOf, IsNewSide}

module _ (a : Alphabet) (k : ℕ) (after : List Exponents) (h : CanRenumber a k after) (w : Exponents) (c : IsLowerOrLetter (lower_letters a k) (last_leads a k) w) where
  lower_count : length (take k a.leads.items) ≡ k
  lower_count = length-take-le k a.leads.items h.within

  pub stays : length w ≤ length a.order.x_degrees.items + k → IsRenumbered (lower_letters a k) (last_leads a k) after w w
  stays l =
      ⊎_elim (λ x. inl (x, refl))
      (λ j. absurd
      (let e : length w ≡ suc (length a.order.x_degrees.items + (length (take k a.leads.items) + j.0)) = ap length j.2 ∙ variable_length (length a.order.x_degrees.items + (length (take k a.leads.items) + j.0)) in
      let f = lower_count in omega arith))
      c

  -- a longer word is a letter
  letter_case : length a.order.x_degrees.items + k < length w →
      (j : ℕ) × (j < length (last_leads a k)) × (w ≡ lead_letter (lower_letters a k) (length (lower_letters a k).leads + j)) × (length w ≡ length a.order.x_degrees.items + (k + j) + 1)
  letter_case l =
      ⊎_elim (λ x. absurd (let p = places_count (lower_letters a k) in let b = x.within in let f = lower_count in omega arith))
      (λ j.
      let e : length w ≡ suc (length a.order.x_degrees.items + (length (take k a.leads.items) + j.0)) = ap length j.2 ∙ variable_length (length a.order.x_degrees.items + (length (take k a.leads.items) + j.0)) in
      let f = lower_count in (j.0, j.1, j.2, omega arith))
      c

  module _ (l : length a.order.x_degrees.items + k < length w) (i : ℕ) (e : i + length a.order.x_degrees.items + 1 ≡ length w) (x : Exponents) (there : x ≡ get_or a.leads.items i x) where
    lead_is : get_or (last_leads a k) (letter_case l).0 x ≡ x
    lead_is =
        let q = (letter_case l).3 in
        get_or-drop k a.leads.items (letter_case l).0 x ∙ (ap (λ n. get_or a.leads.items n x) (let r : k + (letter_case l).0 ≡ i = omega arith in r) ∙ sym there)

    pub lead_there : Contains after x
    lead_there = h.members x (subst (Contains (last_leads a k)) lead_is (contains_at (last_leads a k) (letter_case l).0 x (letter_case l).1))

    pub becomes : (n : ℕ) (v : Exponents) → n < length after → get_or after n [] ≡ x → v ≡ variable (length a.order.x_degrees.items + (k + n)) → IsRenumbered (lower_letters a k) (last_leads a k) after w v
    becomes n v b m q = inr (record {
      old = (letter_case l).0;
      new = n;
      old_within = (letter_case l).1;
      new_within = b;
      lead = get_or_default (last_leads a k) (letter_case l).0 [] x (letter_case l).1 ∙ (lead_is ∙ sym m);
      old_letter = (letter_case l).2;
      new_letter = q ∙ ap (λ y. variable (length a.order.x_degrees.items + (y + n))) (sym lower_count);
    })

module _ (a : Alphabet) (k : ℕ) (after : List Exponents) (R : List RewriteRule) where
  pub letters_none : (i : ℕ) → ((j : ℕ) → j < i → IsNewSide a k after (rule_at R j).right (rule_at R j).right) → AreNewLetters a k after R i []
  letters_none i h = record { each = λ x c. absurd (contains_none x c); all = λ j l. inl (h j l) }

  pub letters_skip : (i : ℕ) (list : List Renaming) → IsNewSide a k after (rule_at R i).right (rule_at R i).right → AreNewLetters a k after R i list → AreNewLetters a k after R (i + 1) list
  letters_skip i list s h = record {
    each = h.each;
    all = λ j l. ⊎_elim (λ q. inl (subst (λ n. IsNewSide a k after (rule_at R n).right (rule_at R n).right) (sym q) s)) (λ n. h.all j (omega (arith, n))) (numbers_or_not j i);
  }

  pub letters_more : (i : ℕ) (list : List Renaming) (x : Renaming) → x.index ≡ i → i < length R → IsNewSide a k after (rule_at R i).right (Some x.letter) → AreNewLetters a k after R i list → AreNewLetters a k after R (i + 1) (list ++ x ∷ [])
  letters_more i list x e b s h = record {
    each = λ y c. ⊎_elim (λ d. h.each y d)
        (λ d. ⊎_elim (λ q. subst (IsNewLetterOf a k after R) q (record { within = omega (arith, e); becomes = subst (λ n. IsNewSide a k after (rule_at R n).right (Some x.letter)) (sym e) s }))
        (λ z. absurd (contains_none y z)) (contains_cases x [] y d)) (contains_either list (x ∷ []) y c);
    all = λ j l. ⊎_elim (λ q. inr (x, contains_right list (x ∷ []) x (contains_here x []), e ∙ sym q))
        (λ n. ⊎_elim (λ t. inl t) (λ y. inr (y.0, contains_left list (x ∷ []) y.0 y.1, y.2)) (h.all j (omega (arith, n)))) (numbers_or_not j i);
  }

  pub letters_within : (list : List Renaming) → AreNewLetters a k after R (length R) list → AreWithin (length R) list
  letters_within list h x c = (h.each x c).within

  pub letters_set : (S : List RewriteRule) (list : List Renaming) → AreNewLetters a k after R (length R) list → AreSetBy list R S → HaveNewSides a k after R S
  letters_set S list h s = record {
    number = s.number;
    left = λ i l. s.left i;
    right = λ i l. ⊎_elim
        (λ y. subst (IsNewSide a k after (rule_at R i).right) (sym y.3) (subst (λ j. IsNewSide a k after (rule_at R j).right (Some y.0.letter)) y.2 (h.each y.0 y.1).becomes))
        (λ y. ⊎_elim (λ t. subst (IsNewSide a k after (rule_at R i).right) (sym y.1) t) (λ z. absurd (y.0 z.0 z.1 z.2)) (h.all i l)) (s.right i l);
  }
