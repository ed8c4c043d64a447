-- Lists of rules in the order of their words.
use Rattle.std.proofs.Common.{◌≡◌, ◌≢◌, ℕ, ◌+◌, ◌<◌, ◌≤◌, refl, sym, ◌∙◌, ap, subst, List, [], ◌∷◌, ◌++◌, length, take, drop, get_or, arith, inl, inr, ⊎_elim}
use Rattle.std.proofs.lemmas.List.{get_or_default, length-map, map-append, take-map, drop-map}
use Rattle.std.proofs.Math.ListN.{get_or-map}
use Rattle.monomial_order.specs.MonomialOrder.{IsIncreasing, IsMonomialOrder, MonomialOrder}
use Rattle.monomial_order.specs.laws.Comparing.{numbers_or_not}
use Rattle.monomial_order.specs.laws.Lists.{contains_at, contains_cases, contains_here, contains_left, contains_none, contains_right, contains_there}
use Rattle.word_rewriting.specs.Rewriting.{RewriteRule}
use Rattle.word_rules.specs.Rules.{rule_at, IsSmallWord}
use Rattle.toric_ideal.specs.declared.rule.Rule.{Rule}
use Rattle.toric_ideal.specs.Increasing.{IsInsertionIndex}
use Rattle.toric_ideal.specs.Rewriting.{rewrite_rule}
use Rattle.toric_ideal.specs.SortedRules.{words_of, AreSortedRules, HaveSmallWords, IsInsertedRule}
use Rattle.toric_ideal.proofs.IncreasingLists.{insert_new}
use Rattle.toric_ideal.proofs.Members.{contains_drop, contains_parts, contains_take}
use Rattle.std.proofs.lemmas.List.Elements.{Contains-append_cases}

-- the word at an index
pub word_at : (rules : List Rule) (j : ℕ) (d : Rule) → j < length rules → get_or (words_of rules) j [] ≡ (get_or rules j d).word
word_at rules j d l = get_or_default (words_of rules) j [] d.word (let n = length-map rules (λ (r : Rule). r.word) in omega arith) ∙ get_or-map (λ (r : Rule). r.word) rules j d

pub words_length : (rules : List Rule) → length (words_of rules) ≡ length rules
words_length rules = length-map rules (λ (r : Rule). r.word)

module _ (O : MonomialOrder) (W : IsMonomialOrder O) where
  pub inserted_new : (rules : List Rule) (t : Rule) (i : ℕ) → IsIncreasing O (words_of rules) → IsInsertionIndex O (words_of rules) t.word i → (i < length (words_of rules) → get_or (words_of rules) i [] ≢ t.word) →
      IsInsertedRule O rules (take i rules ++ t ∷ drop i rules) t
  inserted_new rules t i up place differs = record {
    increasing = subst (IsIncreasing O) (sym parts) (insert_new O W (words_of rules) t.word i up place differs).increasing;
    here = (t, contains_right (take i rules) (t ∷ drop i rules) t (contains_here t (drop i rules)), refl);
    keeps = λ r c. ⊎_elim (λ a. contains_left (take i rules) (t ∷ drop i rules) r a) (λ b. contains_right (take i rules) (t ∷ drop i rules) r (contains_there t (drop i rules) r b)) (contains_parts rules i r c);
    only = λ r c. ⊎_elim (λ a. inr (contains_take rules i r a))
        (λ b. ⊎_elim (λ e. inl e) (λ d. inr (contains_drop rules i r d)) (contains_cases t (drop i rules) r b)) (Contains-append_cases (take i rules) (t ∷ drop i rules) r c);
  }
    where
      parts : words_of (take i rules ++ t ∷ drop i rules) ≡ take i (words_of rules) ++ t.word ∷ drop i (words_of rules)
      parts = map-append (λ (r : Rule). r.word) (take i rules) (t ∷ drop i rules) ∙
          (ap (λ xs. xs ++ t.word ∷ words_of (drop i rules)) (sym (take-map (λ (r : Rule). r.word) i rules)) ∙ ap (λ xs. take i (words_of rules) ++ t.word ∷ xs) (sym (drop-map (λ (r : Rule). r.word) i rules)))

  pub inserted_old : (rules : List Rule) (t d : Rule) (i : ℕ) → IsIncreasing O (words_of rules) → i < length rules → (get_or rules i d).word ≡ t.word → IsInsertedRule O rules rules t
  inserted_old rules t d i up l e = record { increasing = up; here = (get_or rules i d, contains_at rules i d l, e); keeps = λ r c. c; only = λ r c. inr c }

  pub sorted_start : (R : List RewriteRule) (first : ℕ) → AreSortedRules O R first first []
  sorted_start R first = record { increasing = tt; there = λ r c. absurd (contains_none r c); back = λ k a b. absurd (omega arith) }

  pub sorted_next : (R : List RewriteRule) (first i : ℕ) (old new : List Rule) (t : Rule) → first ≤ i → rewrite_rule t ≡ rule_at R i → AreSortedRules O R first i old → IsInsertedRule O old new t → AreSortedRules O R first (i + 1) new
  sorted_next R first i old new t l e s x = record {
    increasing = x.increasing;
    there = λ r c. ⊎_elim (λ q. (i, l, omega arith, ap rewrite_rule (sym q) ∙ e)) (λ h. let y = s.there r h in (y.0, y.1, (let b = y.2 in omega arith), y.3)) (x.only r c);
    back = λ k a b. ⊎_elim (λ q. (x.here.0, x.here.1, x.here.2 ∙ (ap (λ (r : RewriteRule). r.left) e ∙ ap (λ m. (rule_at R m).left) (sym q))))
        (λ ne. let y = s.back k a (omega (arith, ne)) in (y.0, x.keeps y.0 y.1, y.2)) (numbers_or_not k i);
  }

  -- the rules so far have words that are compared
  pub sorted_small : (R : List RewriteRule) (first end : ℕ) (rules : List Rule) → ((k : ℕ) → k < end → IsSmallWord O (rule_at R k).left) → AreSortedRules O R first end rules → HaveSmallWords O rules
  sorted_small R first end rules h s r c = let x = s.there r c in subst (λ (t : RewriteRule). IsSmallWord O t.left) (sym x.3) (h x.0 x.2)
