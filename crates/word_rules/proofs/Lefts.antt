-- Left sides of the rules of a table.
use Rattle.std.proofs.Common.{◌≡◌, ◌≢◌, ℕ, zero, suc, ◌≤◌, ◌<◌, refl, sym, ◌∙◌, subst, List, [], ◌∷◌, length, arith, get_or}
use Rattle.std.specs.Prelude.{Contains, map, Option, Some, IfSome}
use Rattle.std.proofs.lemmas.List.{get_or_default, length-map}
use Rattle.monomial_order.specs.Monomial.{Exponents, exponent, Divides}
use Rattle.word_rewriting.specs.Rewriting.{RewriteRule, HasLeftDivisor}
use Rattle.word_rules.specs.declared.word_rule.WordRule.{WordRule}
use Rattle.word_rules.specs.declared.buckets.Buckets.{Buckets}
use Rattle.word_rules.specs.declared.pairs.PairIndex.{PairIndex}
use Rattle.word_rules.specs.declared.table.Table.{Table}
use Rattle.word_rules.specs.Index.{IsIndexed, lefts_of, bucket, list_at, pair_bucket, rules_of}
use Rattle.word_rules.specs.Rules.{no_rule, rule_at}
use Rattle.word_rules.proofs.Listing.{at_read}

pub left_is : (rules : List WordRule) (i : ℕ) → list_at (lefts_of rules) i ≡ (rule_at (rules_of rules) i).left
left_is [] i = refl
left_is (r ∷ rules) zero = refl
left_is (r ∷ rules) (suc i) = left_is rules i

-- a rule has a left side at its index
pub divisor_index : (R : List RewriteRule) (w : Exponents) → HasLeftDivisor R w → (i : ℕ) × (i < length R) × Divides (rule_at R i).left w
divisor_index R w d =
    let k = d.1 in
    let e : get_or R k.0 no_rule ≡ d.0 = get_or_default R k.0 no_rule d.0 k.1 ∙ k.2 in
    (k.0, k.1, subst (λ (r : RewriteRule). Divides r.left w) (sym e) d.2)

pub row_read : (p : PairIndex) (a : ℕ) (r : Buckets) → a < length p.rows.items → r ≡ get_or p.rows.items a r → (b i : ℕ) → Contains (pair_bucket p a b) i → Contains (bucket r b) i
row_read p a r l e b i h = subst (λ rs. Contains (get_or rs b []) i) (at_read (λ s. map (λ v. v.items) s.lists.items) [] p.rows.items a r l e) h

-- the index that was found
pub found_inside : (R : List RewriteRule) (found : Option ℕ) (i : ℕ) → found ≡ Some i → IfSome found (λ k. k < length R) → i < length R
found_inside R found i e h = subst (λ x. IfSome x (λ k. k < length R)) e h

pub found_divides : (R : List RewriteRule) (w : Exponents) (found : Option ℕ) (i : ℕ) → found ≡ Some i → IfSome found (λ k. Divides (rule_at R k).left w) →
    Divides (rule_at R i).left w
found_divides R w found i e h = subst (λ x. IfSome x (λ k. Divides (rule_at R k).left w)) e h

module _ (t : Table) (w : Exponents) (i : ℕ) where
  pub divided_letter : (b : ℕ) → Divides (list_at (lefts_of t.rules.items) i) w → exponent (list_at (lefts_of t.rules.items) i) b ≢ 0 → exponent w b ≢ 0
  divided_letter b d e z = e (let h = d b in omega arith)

  -- if no left side in the buckets of two letters of the word divides it, none does
  pub none_divides : IsIndexed t → (letters : List ℕ) → ((a : ℕ) → exponent w a ≢ 0 → Contains letters a) →
      ((a : ℕ) → Contains letters a → (b j : ℕ) → Contains letters b → b ≤ a → Contains (pair_bucket t.by_pair a b) j → j < length t.rules.items →
      Divides (list_at (lefts_of t.rules.items) j) w → ⊥) → i < length t.rules.items → Divides (rule_at (rules_of t.rules.items) i).left w → ⊥
  none_divides x letters h none inside divides =
      let d = subst (λ v. Divides v w) (sym (left_is t.rules.items i)) divides in
      let p = x.paired i (subst (λ n. i < n) (sym (length-map t.rules.items (λ s. s.left))) inside) in
      none p.a (h p.a (divided_letter p.a d p.letters.has_first)) p.b i (h p.b (divided_letter p.b d p.letters.has_second)) p.letters.ordered p.listed inside d
