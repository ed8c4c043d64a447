-- The leads of the last degree are numbered again: exact rules stay exact.
use Rattle.std.proofs.Common.{◌≡◌, ℕ, ◌≤◌, refl, sym, ap, subst, List, arith, inl, inr, ⊎_elim, Some, None}
use Rattle.std.specs.Prelude.{Contains}
use Rattle.monomial_order.specs.Monomial.{Exponents, Divides, IsMultiple}
use Rattle.word_laws.specs.Words.{Letters, AreLetters, word_order_of, IsWord, IsReducible}
use Rattle.word_laws.specs.laws.Words.{degree_same}
use Rattle.word_rewriting.specs.Rewriting.{WordOrZero, RewriteRule, IsInNormalForm}
use Rattle.word_rewriting.specs.Completeness.{with_leads, AreRewriteRules, IsRightSide}
use Rattle.word_rewriting.specs.Renumbering.{AreRenumbered, AreRenumberedRules, IsRenumbered, IsRenumberedSide}
use Rattle.word_rewriting.specs.laws.Renumbering.{last_letters, renumbered_degree, renumbered_divides, renumbered_generates, renumbered_rules, renumbered_turned, renumbered_unique, turned, word_cases, last_irreducible}
use Rattle.toric_ideal.specs.Rewriting.{AreExactRules}
use Rattle.toric_ideal.specs.Settling.{IsLowerOrLetterSide}

module _ (L : Letters) (H : AreLetters L) (Z : List Exponents) (d : ℕ) (before after : List Exponents) (K : AreRenumbered L d before after) where
  abbrev M : Letters
  M = with_leads L before

  HM : AreLetters M
  HM = last_letters L H d before K.old_leads

  rule_reducible : (w : Exponents) (a : WordOrZero) → IsRightSide (IsMultiple Z) M w a → IsReducible (IsMultiple Z) M w
  rule_reducible w None h = inl h
  rule_reducible w (Some v) h = inr (v, h)

  module _ (standard : (m : Exponents) → Contains before m → ¬ IsMultiple Z m) where
    -- left sides have none of the last letters
    pub left_lower : (R : List RewriteRule) → AreExactRules M Z d R → (r : RewriteRule) → Contains R r → IsWord L r.left
    left_lower R exact r h =
        let x = exact.rules r h in
        ⊎_elim (λ k. k) (λ i. absurd (last_irreducible L H d before K.old_leads (IsMultiple Z) standard i.0 i.1 (subst (IsReducible (IsMultiple Z) M) i.2 (rule_reducible r.left r.right x.1))))
        (word_cases L H d before K.old_leads r.left x.0 (exact.degree r h))

  -- right sides have none, or are one
  pub right_lower : (R : List RewriteRule) → AreExactRules M Z d R → (r : RewriteRule) → Contains R r → IsLowerOrLetterSide L before r.right
  right_lower R exact r h = side r.left r.right (exact.degree r h) (exact.rules r h).1
    where
      side : (u : Exponents) (a : WordOrZero) → (word_order_of M).degree u ≤ d → IsRightSide (IsMultiple Z) M u a → IsLowerOrLetterSide L before a
      side u None b k = tt
      side u (Some v) b k = let e = degree_same M HM v u k.image in word_cases L H d before K.old_leads v k.word (omega arith)

  -- a side has one renumbered side
  pub side_unique : (a b c : WordOrZero) → IsRenumberedSide L before after a b → IsRenumberedSide L before after a c → b ≡ c
  side_unique None None None h k = refl
  side_unique None None (Some y) h k = absurd k
  side_unique None (Some x) c h k = absurd h
  side_unique (Some v) None c h k = absurd h
  side_unique (Some v) (Some x) None h k = absurd k
  side_unique (Some v) (Some x) (Some y) h k = ap Some (renumbered_unique L H d before after K v x y h k)

  module _ (R S : List RewriteRule) (exact : AreExactRules M Z d R) (h : AreRenumberedRules L before after R S) where
    T : AreRenumbered L d after before
    T = turned L d before after K

    new_rules : AreRewriteRules (IsMultiple Z) (with_leads L after) S
    new_rules = renumbered_rules L H d before after K (IsMultiple Z) R S h exact.rules

    old_divides : (s : RewriteRule) → Contains S s → (v w : Exponents) (r : RewriteRule) → IsRenumbered L before after r.left s.left → IsRenumbered L before after v w → Divides s.left w → Divides r.left v
    old_divides s hs v w r a b e =
        renumbered_divides L H d after before T s.left w r.left v (new_rules s hs).0.trimmed (renumbered_turned L before after r.left s.left a) (renumbered_turned L before after v w b) e

    normal : (a b : WordOrZero) → IsRenumberedSide L before after a b → IsInNormalForm R a → IsInNormalForm S b
    normal None None k n = tt
    normal None (Some w) k n = absurd k
    normal (Some v) None k n = tt
    normal (Some v) (Some w) k n = λ e. let r = h.each e.0 e.1 in n (r.0, r.1, old_divides e.0 e.1 v w r.0 r.2.0 k e.2)

    pub settled_exact : AreExactRules (with_leads L after) Z d S
    settled_exact = record {
      rules = new_rules;
      reduced = record {
        right = λ s hs. let r = h.each s hs in normal r.0.right s.right r.2.1 (exact.reduced.right r.0 r.1);
        left = λ s t hs ht e.
            let r = h.each s hs in
            let q = h.each t ht in
            let p = exact.reduced.left r.0 q.0 r.1 q.1 (old_divides t ht r.0.left s.left q.0 q.2.0 r.2.0 e) in
            renumbered_unique L H d before after K q.0.left t.left s.left q.2.0 (subst (λ u. IsRenumbered L before after u s.left) (sym p) r.2.0);
      };
      generates = renumbered_generates L H d before after K (IsMultiple Z) R S h exact.rules exact.generates;
      degree = λ s hs. let r = h.each s hs in let b = exact.degree r.0 r.1 in let e = renumbered_degree L H d before after K r.0.left s.left r.2.0 in omega arith;
    }
