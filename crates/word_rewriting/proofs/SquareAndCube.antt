-- The rules of the sample are complete.
use Rattle.std.proofs.Common.{◌≡◌, ◌≢◌, ℕ, zero, suc, ◌≤◌, ◌<◌, refl, subst, [], ◌∷◌, arith, inl, inr, ⊎_elim, Some, Contains}
use Rattle.std.specs.Prelude.{AllPairs, All, get_or}
use Rattle.std.proofs.lemmas.List.Kept.{AllPairs-cons}
use Rattle.std.proofs.lemmas.List.Elements.{All-cons}
use Rattle.monomial_order.specs.Monomial.{Exponents, exponent, product, IsMonomial, IsMultiple, AreCoprime, Divides, IsTrimmed}
use Rattle.monomial_order.specs.laws.Lists.{contains_cases, contains_none}
use Rattle.word_laws.specs.Words.{AreLetters, IsWord}
use Rattle.word_rewriting.specs.Rewriting.{RewriteRule, Rewrites, stays, AreJoinable, IsInNormalForm, HasJoinablePair, multiple}
use Rattle.word_rewriting.specs.Completeness.{IsRightSide, AreRewriteRules, lead_letter, AreReducedRules}
use Rattle.word_rewriting.specs.Completion.{IsCompletion, HasConnectedPair, directly}
use Rattle.word_rewriting.specs.Samples.{square_and_cube, square_rule, cube_rule, fourth_rule, sixth_rule, sample_rules}
use Rattle.word_rewriting.specs.laws.Pairs.{joinable_pair, rewrites_multiple}
use Rattle.word_rewriting.specs.laws.Rewriting.{rewrites_trans}

-- what holds of the four rules holds of each
four : (P : RewriteRule → Type 0) → P square_rule → P cube_rule → P fourth_rule → P sixth_rule → (r : RewriteRule) → Contains sample_rules r → P r
four P a b c d r k =
    ⊎_elim (λ e. subst P e a)
    (λ l. ⊎_elim (λ e. subst P e b)
    (λ m. ⊎_elim (λ e. subst P e c)
    (λ n. ⊎_elim (λ e. subst P e d) (λ o. absurd (contains_none r o)) (contains_cases sixth_rule [] r n))
    (contains_cases fourth_rule (sixth_rule ∷ []) r m))
    (contains_cases cube_rule (fourth_rule ∷ (sixth_rule ∷ [])) r l))
    (contains_cases square_rule (cube_rule ∷ (fourth_rule ∷ (sixth_rule ∷ []))) r k)

pub letters : AreLetters square_and_cube
letters = record {
  positive = λ d k. ⊎_elim (λ e. subst (λ x. 1 ≤ x) e (omega arith)) (λ n. absurd (contains_none d n)) (contains_cases 1 [] d k);
  leads = λ m k. each (IsMonomial 1) (record { trimmed = λ e. cc; within = omega arith }) (record { trimmed = λ e. cc; within = omega arith }) m k;
  not_one = λ m k. each (λ x. x ≢ []) (λ e. cc) (λ e. cc) m k;
}
  where
    each : (P : Exponents → Type 0) → P (2 ∷ []) → P (3 ∷ []) → (m : Exponents) → Contains ((2 ∷ []) ∷ ((3 ∷ []) ∷ [])) m → P m
    each P a b m k =
        ⊎_elim (λ e. subst P e a) (λ l. ⊎_elim (λ e. subst P e b) (λ n. absurd (contains_none m n)) (contains_cases (3 ∷ []) [] m l)) (contains_cases (2 ∷ []) ((3 ∷ []) ∷ []) m k)

pub rules : AreRewriteRules (IsMultiple []) square_and_cube sample_rules
rules =
    four (λ r. IsWord square_and_cube r.left × IsRightSide (IsMultiple []) square_and_cube r.left r.right)
    (record { trimmed = λ e. cc; within = omega arith }, record { word = record { trimmed = λ e. cc; within = omega arith }; image = refl; less = refl })
    (record { trimmed = λ e. cc; within = omega arith }, record { word = record { trimmed = λ e. cc; within = omega arith }; image = refl; less = refl })
    (record { trimmed = λ e. cc; within = omega arith }, record { word = record { trimmed = λ e. cc; within = omega arith }; image = refl; less = refl })
    (record { trimmed = λ e. cc; within = omega arith }, record { word = record { trimmed = λ e. cc; within = omega arith }; image = refl; less = refl })

square_in : Contains sample_rules square_rule
square_in = (0, omega arith, refl)

cube_in : Contains sample_rules cube_rule
cube_in = (1, omega arith, refl)

fourth_in : Contains sample_rules fourth_rule
fourth_in = (2, omega arith, refl)

sixth_in : Contains sample_rules sixth_rule
sixth_in = (3, omega arith, refl)

-- a rule, times a word
by : (r : RewriteRule) → Contains sample_rules r → (k : Exponents) → IsTrimmed k → Rewrites sample_rules (Some (product k r.left)) (multiple k r.right)
by r h k t = rewrites_multiple sample_rules r k h t

square_cube : HasJoinablePair sample_rules square_rule cube_rule
square_cube =
    joinable_pair sample_rules square_rule cube_rule (Some (0 ∷ (2 ∷ []))) (Some (1 ∷ (0 ∷ (1 ∷ []))))
    (record { cofactor = 0 ∷ (1 ∷ []); trimmed = λ e. cc; word = refl; result = refl }, record { cofactor = 1 ∷ []; trimmed = λ e. cc; word = refl; result = refl })
    (Some (0 ∷ (2 ∷ [])), stays, by fourth_rule fourth_in [] tt)

square_fourth : HasJoinablePair sample_rules square_rule fourth_rule
square_fourth =
    joinable_pair sample_rules square_rule fourth_rule (Some (0 ∷ (1 ∷ (1 ∷ [])))) (Some (1 ∷ (2 ∷ [])))
    (record { cofactor = 0 ∷ (0 ∷ (1 ∷ [])); trimmed = λ e. cc; word = refl; result = refl }, record { cofactor = 1 ∷ []; trimmed = λ e. cc; word = refl; result = refl })
    (Some (0 ∷ (1 ∷ (1 ∷ []))), stays, by cube_rule cube_in (0 ∷ (1 ∷ [])) (λ e. cc))

square_sixth : AreCoprime square_rule.left sixth_rule.left
square_sixth zero = inr refl
square_sixth (suc i) = inl refl

cube_fourth : HasJoinablePair sample_rules cube_rule fourth_rule
cube_fourth =
    joinable_pair sample_rules cube_rule fourth_rule (Some (0 ∷ (0 ∷ (2 ∷ [])))) (Some (0 ∷ (3 ∷ [])))
    (record { cofactor = 0 ∷ (0 ∷ (1 ∷ [])); trimmed = λ e. cc; word = refl; result = refl }, record { cofactor = 0 ∷ (1 ∷ []); trimmed = λ e. cc; word = refl; result = refl })
    (Some (0 ∷ (0 ∷ (2 ∷ []))), stays, by sixth_rule sixth_in [] tt)

cube_sixth : HasJoinablePair sample_rules cube_rule sixth_rule
cube_sixth =
    joinable_pair sample_rules cube_rule sixth_rule (Some (0 ∷ (2 ∷ (1 ∷ [])))) (Some (1 ∷ (0 ∷ (2 ∷ []))))
    (record { cofactor = 0 ∷ (2 ∷ []); trimmed = λ e. cc; word = refl; result = refl }, record { cofactor = 1 ∷ []; trimmed = λ e. cc; word = refl; result = refl })
    (Some (0 ∷ (2 ∷ (1 ∷ []))), stays, by fourth_rule fourth_in (0 ∷ (0 ∷ (1 ∷ []))) (λ e. cc))

fourth_sixth : AreCoprime fourth_rule.left sixth_rule.left
fourth_sixth zero = inr refl
fourth_sixth (suc zero) = inl refl
fourth_sixth (suc (suc zero)) = inr refl
fourth_sixth (suc (suc (suc i))) = inl refl

none : {A : Type 0} (P : A → Type 0) → All P []
none P k d l = absurd (omega arith)

pairs : AllPairs (HasConnectedPair sample_rules []) sample_rules
pairs =
    AllPairs-cons (HasConnectedPair sample_rules []) square_rule (cube_rule ∷ (fourth_rule ∷ (sixth_rule ∷ [])))
    (All-cons (HasConnectedPair sample_rules [] square_rule) cube_rule (fourth_rule ∷ (sixth_rule ∷ [])) (directly (inr (inr square_cube)))
    (All-cons (HasConnectedPair sample_rules [] square_rule) fourth_rule (sixth_rule ∷ []) (directly (inr (inr square_fourth)))
    (All-cons (HasConnectedPair sample_rules [] square_rule) sixth_rule [] (directly (inl square_sixth)) (none (HasConnectedPair sample_rules [] square_rule)))))
    (AllPairs-cons (HasConnectedPair sample_rules []) cube_rule (fourth_rule ∷ (sixth_rule ∷ []))
    (All-cons (HasConnectedPair sample_rules [] cube_rule) fourth_rule (sixth_rule ∷ []) (directly (inr (inr cube_fourth)))
    (All-cons (HasConnectedPair sample_rules [] cube_rule) sixth_rule [] (directly (inr (inr cube_sixth))) (none (HasConnectedPair sample_rules [] cube_rule))))
    (AllPairs-cons (HasConnectedPair sample_rules []) fourth_rule (sixth_rule ∷ [])
    (All-cons (HasConnectedPair sample_rules [] fourth_rule) sixth_rule [] (directly (inl fourth_sixth)) (none (HasConnectedPair sample_rules [] fourth_rule)))
    (λ i j d l k. absurd (omega arith))))

pub is_completion : IsCompletion (IsMultiple []) [] square_and_cube sample_rules []
is_completion = record {
  rules = rules;
  leads = lead;
  zeros = λ z k. absurd (contains_none z k);
  pairs = pairs;
}
  where
    lead : (i : ℕ) → i < 2 → AreJoinable sample_rules (Some (get_or square_and_cube.leads i [])) (Some (lead_letter square_and_cube i))
    lead zero l = (Some (0 ∷ (1 ∷ [])), by square_rule square_in [] tt, stays)
    lead (suc zero) l = (
      Some (0 ∷ (0 ∷ (1 ∷ []))),
      rewrites_trans sample_rules (by square_rule square_in (1 ∷ []) (λ e. cc)) (by cube_rule cube_in [] tt),
      stays,
    )
    lead (suc (suc i)) l = absurd (omega arith)

-- no left side divides another one, or a right side
apart : (m n : Exponents) (i : ℕ) → exponent n i < exponent m i → Divides m n → ⊥
apart m n i l d = let k = d i in omega arith

undivided : (n : Exponents) → (i j k l : ℕ) → exponent n i < exponent square_rule.left i → exponent n j < exponent cube_rule.left j →
    exponent n k < exponent fourth_rule.left k → exponent n l < exponent sixth_rule.left l → IsInNormalForm sample_rules (Some n)
undivided n i j k l a b c d h =
    four (λ r. Divides r.left n → ⊥) (apart square_rule.left n i a) (apart cube_rule.left n j b) (apart fourth_rule.left n k c) (apart sixth_rule.left n l d) h.0 h.1 h.2

pub reduced : AreReducedRules sample_rules
reduced = record {
  right = four (λ r. IsInNormalForm sample_rules r.right)
      (undivided (0 ∷ (1 ∷ [])) 0 0 0 1 (omega arith) (omega arith) (omega arith) (omega arith))
      (undivided (0 ∷ (0 ∷ (1 ∷ []))) 0 0 0 1 (omega arith) (omega arith) (omega arith) (omega arith))
      (undivided (0 ∷ (2 ∷ [])) 0 0 0 1 (omega arith) (omega arith) (omega arith) (omega arith))
      (undivided (0 ∷ (0 ∷ (2 ∷ []))) 0 0 0 1 (omega arith) (omega arith) (omega arith) (omega arith));
  left = λ r s hr hs d. four (λ s. Divides s.left r.left → s.left ≡ r.left)
      (four (λ r. Divides square_rule.left r.left → square_rule.left ≡ r.left) (λ d. refl)
      (λ d. absurd (apart square_rule.left cube_rule.left 0 (omega arith) d)) (λ d. absurd (apart square_rule.left fourth_rule.left 0 (omega arith) d)) (λ d. absurd (apart square_rule.left sixth_rule.left 0 (omega arith) d)) r hr)
      (four (λ r. Divides cube_rule.left r.left → cube_rule.left ≡ r.left)
      (λ d. absurd (apart cube_rule.left square_rule.left 1 (omega arith) d)) (λ d. refl) (λ d. absurd (apart cube_rule.left fourth_rule.left 1 (omega arith) d)) (λ d. absurd (apart cube_rule.left sixth_rule.left 0 (omega arith) d)) r hr)
      (four (λ r. Divides fourth_rule.left r.left → fourth_rule.left ≡ r.left)
      (λ d. absurd (apart fourth_rule.left square_rule.left 2 (omega arith) d)) (λ d. absurd (apart fourth_rule.left cube_rule.left 2 (omega arith) d)) (λ d. refl) (λ d. absurd (apart fourth_rule.left sixth_rule.left 0 (omega arith) d)) r hr)
      (four (λ r. Divides sixth_rule.left r.left → sixth_rule.left ≡ r.left)
      (λ d. absurd (apart sixth_rule.left square_rule.left 1 (omega arith) d)) (λ d. absurd (apart sixth_rule.left cube_rule.left 1 (omega arith) d)) (λ d. absurd (apart sixth_rule.left fourth_rule.left 1 (omega arith) d)) (λ d. refl) r hr)
      s hs d;
}
