-- Letters of the members of critical pairs.
use Rattle.std.proofs.Common.{◌≡◌, ◌≢◌, ℕ, sym, ◌∙◌, ap, subst, arith, Some, Bool, inl, inr, ⊎_elim}
use Rattle.std.specs.Prelude.{◌↔◌, ◌⊎◌, IsTrue}
use Rattle.std.proofs.lemmas.Option.{same_Some}
use Rattle.monomial_order.specs.Monomial.{Exponents, exponent, product, least_common_multiple}
use Rattle.monomial_order.specs.laws.Comparing.{numbers_or_not}
use Rattle.monomial_order.specs.laws.Monomial.{exponent-product, exponent-least_common_multiple, least_common_multiple_comm}
use Rattle.word_rewriting.specs.Rewriting.{RewriteRule, RewritesBy, IsCriticalPair, WordOrZero, multiple}
use Rattle.word_rules.specs.Rules.{HaveCommonLetter}
use Rattle.word_rules.specs.Members.{member_exponent}

-- what a rule rewrites a word to is its multiple of the right side
pub member_is : (r : RewriteRule) (w v : Exponents) (a : WordOrZero) (b : RewritesBy r w a) → r.right ≡ Some v → a ≡ Some (product b.cofactor v)
member_is r w v a b h = sym b.result ∙ ap (multiple b.cofactor) h

-- its exponents
pub exponent_of_member : (r : RewriteRule) (other v u : Exponents) (a : WordOrZero) → RewritesBy r (least_common_multiple r.left other) a →
    r.right ≡ Some v → a ≡ Some u → (p : ℕ) → exponent u p ≡ member_exponent r.left v other p
exponent_of_member r other v u a b h e p =
    let same = same_Some u (product b.cofactor v) (sym e ∙ member_is r (least_common_multiple r.left other) v a b h) in
    let x = ap (λ m. exponent m p) same in
    let y = exponent-product b.cofactor v p in
    let z = exponent-product b.cofactor r.left p in
    let w = ap (λ m. exponent m p) b.word in
    let l = exponent-least_common_multiple r.left other p in
    omega (arith, x, y, z, w, l)

-- a letter of the word is in what the rule from `left` to `right` rewrites its least common multiple with `other` to
abbrev pub HasLetterIn : Exponents → Exponents → Exponents → Exponents → Type 0
HasLetterIn word left right other = (p : ℕ) × (exponent word p ≢ 0) × (member_exponent left right other p ≢ 0)

-- the critical pair of two rules whose right sides are words
module _ (r s : RewriteRule) (u v : Exponents) (is_u : r.right ≡ Some u) (is_v : s.right ≡ Some v) (a b : WordOrZero) (pair : IsCriticalPair r s a b) where
  in_first : (w : Exponents) → a ≡ Some w → (p : ℕ) → exponent w p ≡ member_exponent r.left u s.left p
  in_first w e p = exponent_of_member r s.left u w a pair.0 is_u e p

  in_second : (w : Exponents) → b ≡ Some w → (p : ℕ) → exponent w p ≡ member_exponent s.left v r.left p
  in_second w e p =
      exponent_of_member s r.left v w b (subst (λ m. RewritesBy s m b) (least_common_multiple_comm r.left s.left) pair.1) is_v e p

  common : (p : ℕ) → member_exponent r.left u s.left p ≢ 0 → member_exponent s.left v r.left p ≢ 0 → HaveCommonLetter a b
  common p m n =
      let x = member_is r (least_common_multiple r.left s.left) u a pair.0 is_u in
      let y = member_is s (least_common_multiple r.left s.left) v b pair.1 is_v in
      record {
        first = product pair.0.cofactor u;
        second = product pair.1.cofactor v;
        letter = p;
        is_first = x;
        is_second = y;
        in_first = λ z. m (sym (in_first (product pair.0.cofactor u) x p) ∙ z);
        in_second = λ z. n (sym (in_second (product pair.1.cofactor v) y p) ∙ z);
      }

  pub by_first : HasLetterIn u s.left v r.left → HaveCommonLetter a b
  by_first h = common h.0 (λ z. h.1 (omega (arith, z))) h.2

  pub by_second : HasLetterIn v r.left u s.left → HaveCommonLetter a b
  by_second h = common h.0 h.2 (λ z. h.1 (omega (arith, z)))

  -- a common letter that is not in the right side of the first rule is in that of the second one
  pub by_one : HaveCommonLetter a b → HasLetterIn u s.left v r.left ⊎ HasLetterIn v r.left u s.left
  by_one h =
      let p = h.letter in
      let m : member_exponent r.left u s.left p ≢ 0 = λ z. h.in_first (in_first h.first h.is_first p ∙ z) in
      let n : member_exponent s.left v r.left p ≢ 0 = λ z. h.in_second (in_second h.second h.is_second p ∙ z) in
      ⊎_elim (λ z. inr (p, (λ y. m (omega (arith, y, z, n))), m)) (λ x. inl (p, x, n)) (numbers_or_not (exponent u p) 0)

-- what a test tells of equal words
pub told : (t : Bool) (word left right other l m o : Exponents) → left ≡ l → right ≡ m → other ≡ o →
    IsTrue t ↔ HasLetterIn word left right other → IsTrue t ↔ HasLetterIn word l m o
told t word left right other l m o x y z h =
    subst (λ w. IsTrue t ↔ HasLetterIn word l m w) z
    (subst (λ w. IsTrue t ↔ HasLetterIn word l w other) y (subst (λ w. IsTrue t ↔ HasLetterIn word w right other) x h))
