-- To each degree there are rules whose left sides generate the reducible words: one for each of these.
use Rattle.std.proofs.Common.{ℕ, sym, subst, List, [], ◌∷◌, arith, ⊎_elim, Some, None, Contains, length}
use Rattle.monomial_order.specs.Monomial.{Exponents, Divides}
use Rattle.monomial_order.specs.laws.Lists.{contains_cases, contains_here, contains_there, contains_none}
use Rattle.monomial_order.specs.laws.Comparing.{monomial_or_not}
use Rattle.monomial_order.specs.laws.Rank.{lists, within_listed}
use Rattle.word_laws.specs.Words.{Letters, AreLetters, word_order_of, IsWord, IsReducible, IsZeroClosed, IsZeroDecided}
use Rattle.word_laws.specs.laws.Words.{word_laws}
use Rattle.word_laws.specs.laws.Reducible.{reducible_or_not}
use Rattle.word_rewriting.specs.Rewriting.{WordOrZero, RewriteRule, HasLeftDivisor}
use Rattle.word_rewriting.specs.Completeness.{AreRewriteRules, IsRightSide, GeneratesReducible}

module _ (IsZero : Exponents → Type 0) (L : Letters) (H : AreLetters L) (closed : IsZeroClosed (length L.degrees) IsZero) (decided : IsZeroDecided (length L.degrees) IsZero) where
  record IsListing (ks : List Exponents) (R : List RewriteRule) : Type 0 where
    rules : AreRewriteRules IsZero L R
    all : (w : Exponents) → Contains ks w → IsWord L w → IsReducible IsZero L w → HasLeftDivisor R w

  skip : (k : Exponents) (ks : List Exponents) (R : List RewriteRule) → (IsWord L k → IsReducible IsZero L k → ⊥) → IsListing ks R → IsListing (k ∷ ks) R
  skip k ks R n h = record {
    rules = h.rules;
    all = λ w c hw r. ⊎_elim (λ e. absurd (n (subst (IsWord L) (sym e) hw) (subst (IsReducible IsZero L) (sym e) r))) (λ c2. h.all w c2 hw r) (contains_cases k ks w c);
  }

  put : (k : Exponents) (ks : List Exponents) (R : List RewriteRule) (a : WordOrZero) → IsWord L k → IsRightSide IsZero L k a → IsListing ks R →
      IsListing (k ∷ ks) (record { left = k; right = a } ∷ R)
  put k ks R a hk ha h = record {
    rules = λ r c. ⊎_elim (λ e. subst (λ x. IsWord L x.left × IsRightSide IsZero L x.left x.right) e (hk, ha)) (λ c2. h.rules r c2) (contains_cases _ R r c);
    all = λ w c hw r. ⊎_elim
        (λ e. let t : RewriteRule = record { left = k; right = a } in (t, contains_here t R, subst (Divides k) e (λ i. omega arith)))
        (λ c2. let d = h.all w c2 hw r in (d.0, contains_there _ R d.0 d.1, d.2))
        (contains_cases k ks w c);
  }

  listing : (ks : List Exponents) → (R : List RewriteRule) × IsListing ks R
  listing [] = ([], record { rules = λ r c. absurd (contains_none r c); all = λ w c. absurd (contains_none w c) })
  listing (k ∷ ks) =
      let t = listing ks in
      ⊎_elim
      (λ hk. ⊎_elim
      (λ r. ⊎_elim (λ z. (_, put k ks t.0 None hk z t.1)) (λ s. (_, put k ks t.0 (Some s.0) hk s.1 t.1)) r)
      (λ n. (t.0, skip k ks t.0 (λ hw r. n r) t.1))
      (reducible_or_not L H IsZero closed decided k hk))
      (λ n. (t.0, skip k ks t.0 (λ hw r. n hw) t.1))
      (monomial_or_not (word_order_of L).places k)

  pub rules_exist : (c : ℕ) → (R : List RewriteRule) × AreRewriteRules IsZero L R × GeneratesReducible IsZero L R c
  rules_exist c =
      let t = listing (lists (word_order_of L).places c) in
      (t.0, t.1.rules, λ w hw d r. t.1.all w (within_listed (word_order_of L) (word_laws L H) c w (record { monomial = hw; degree = d })) hw r)
