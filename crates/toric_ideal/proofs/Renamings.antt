-- Right sides that become a letter, one after the other.
use Rattle.std.proofs.Common.{◌≡◌, ◌≢◌, ℕ, ◌+◌, ◌<◌, refl, sym, ◌∙◌, ap, subst, List, [], ◌∷◌, ◌++◌, length, set, get_or, length-append, arith, inl, inr, ⊎_elim, Some}
use mathlib.Core.List.{append_assoc}
use Rattle.std.specs.Prelude.{Contains}
use Rattle.std.proofs.lemmas.List.{get_or-set_same, get_or-set_other, get_or_default, length-map, length-set}
use Rattle.std.proofs.Math.ListN.{get_or-append, get_or-map}
use Rattle.std.proofs.Math.Seq.{get_or-append_seam}
use Rattle.monomial_order.specs.Monomial.{Exponents}
use Rattle.monomial_order.specs.laws.Comparing.{numbers_or_not}
use Rattle.monomial_order.specs.laws.Lists.{contains_at, contains_cases, contains_either, contains_here, contains_left, contains_none, contains_right, contains_there}
use Rattle.word_rewriting.specs.Rewriting.{RewriteRule}
use Rattle.word_rules.specs.Rules.{no_rule, rule_at}
use Rattle.toric_ideal.specs.declared.renaming.Renaming.{Renaming}
use Rattle.toric_ideal.specs.declared.rule.Rule.{Rule}
use Rattle.toric_ideal.specs.Renaming.{lead_rule, IsRenamedRule, AreRenamed, IsRenaming, AreRenamings, AreSetBy, AreWithin}
use Rattle.toric_ideal.specs.Rewriting.{rewrite_rule, rewrite_rules}
use Rattle.toric_ideal.proofs.Cleaning.{rule_index}

module _ (w letter : Exponents) (R : List RewriteRule) where
  pub renamings_none : (i : ℕ) → ((k : ℕ) → k < i → (rule_at R k).right ≢ Some w) → AreRenamings w letter R i []
  renamings_none i h = record { each = λ x c. absurd (contains_none x c); all = λ k l e. absurd (h k l e) }

  pub renamings_skip : (i : ℕ) (list : List Renaming) → (rule_at R i).right ≢ Some w → AreRenamings w letter R i list → AreRenamings w letter R (i + 1) list
  renamings_skip i list ne h = record {
    each = h.each;
    all = λ k l e. ⊎_elim (λ q. absurd (ne (subst (λ j. (rule_at R j).right ≡ Some w) q e))) (λ n. h.all k (omega (arith, n)) e) (numbers_or_not k i);
  }

  pub renamings_more : (i : ℕ) (list : List Renaming) (x : Renaming) → x.index ≡ i → IsRenaming w letter R x → AreRenamings w letter R i list → AreRenamings w letter R (i + 1) (list ++ x ∷ [])
  renamings_more i list x e r h = record {
    each = λ y c. ⊎_elim (λ a. h.each y a) (λ b. ⊎_elim (λ q. subst (IsRenaming w letter R) q r) (λ z. absurd (contains_none y z)) (contains_cases x [] y b)) (contains_either list (x ∷ []) y c);
    all = λ k l t. ⊎_elim (λ q. (x, contains_right list (x ∷ []) x (contains_here x []), e ∙ sym q))
        (λ n. let y = h.all k (omega (arith, n)) t in (y.0, contains_left list (x ∷ []) y.0 y.1, y.2)) (numbers_or_not k i);
  }

  pub renamings_within : (list : List Renaming) → AreRenamings w letter R (length R) list → AreWithin (length R) list
  renamings_within list h x c = (h.each x c).within

  pub set_renamed : (list : List Renaming) (S : List RewriteRule) → AreRenamings w letter R (length R) list → AreSetBy list R S → AreRenamed w letter R S
  set_renamed list S h s = record {
    number = s.number;
    each = λ k l. record {
      left = s.left k;
      right = ⊎_elim
          (λ a. let r = h.each a.0 a.1 in inr (subst (λ j. (rule_at R j).right ≡ Some w) a.2 r.right, a.3 ∙ ap Some r.becomes))
          (λ b. inl (λ e. let y = h.all k l e in b.0 y.0 y.1 y.2, b.1)) (s.right k l);
    };
  }

-- nothing is set by no renamings
pub set_none : (R : List RewriteRule) → AreSetBy [] R R
set_none R = record { number = refl; left = λ k. refl; right = λ k l. inr (λ x c. absurd (contains_none x c), refl) }

-- one more is set
pub set_more : (list : List Renaming) (R T : List RewriteRule) (x : Renaming) → x.index < length T → AreSetBy list R T →
    AreSetBy (x ∷ list) R (set T x.index (record { left = (rule_at T x.index).left; right = Some x.letter }))
set_more list R T x l h = record {
  number = length-set T x.index t ∙ h.number;
  left = λ k. ⊎_elim
      (λ q. subst (λ j. (rule_at (set T x.index t) j).left ≡ (rule_at R j).left) (sym q) (ap (λ (s : RewriteRule). s.left) here ∙ h.left x.index))
      (λ ne. ap (λ (s : RewriteRule). s.left) (get_or-set_other T x.index k t no_rule ne) ∙ h.left k) (numbers_or_not k x.index);
  right = λ k b. ⊎_elim
      (λ q. inl (x, contains_here x list, sym q, subst (λ j. (rule_at (set T x.index t) j).right ≡ Some x.letter) (sym q) (ap (λ (s : RewriteRule). s.right) here)))
      (λ ne.
      let other = ap (λ (s : RewriteRule). s.right) (get_or-set_other T x.index k t no_rule ne) in
      ⊎_elim (λ a. inl (a.0, contains_there x list a.0 a.1, a.2, other ∙ a.3))
      (λ a. inr (λ y c. ⊎_elim (λ e z. ne (sym (ap (λ (v : Renaming). v.index) e ∙ z))) (λ d. a.0 y d) (contains_cases x list y c), other ∙ a.1)) (h.right k b))
      (numbers_or_not k x.index);
}
  where
    t : RewriteRule
    t = record { left = (rule_at T x.index).left; right = Some x.letter }

    here : rule_at (set T x.index t) x.index ≡ t
    here = get_or-set_same T x.index t no_rule l

-- the last of the renamings that are left is set
pub set_next : (all old new done : List Renaming) (x : Renaming) → old ≡ new ++ x ∷ [] → all ≡ old ++ done → all ≡ new ++ x ∷ done
set_next all old new done x e h = h ∙ (ap (λ xs. xs ++ done) e ∙ append_assoc new (x ∷ []) done)

-- its index is one of the rules
pub next_within : (all old new done : List Renaming) (x : Renaming) (n : ℕ) → old ≡ new ++ x ∷ [] → all ≡ old ++ done → AreWithin n all → x.index < n
next_within all old new done x n e h b = b x (subst (λ xs. Contains xs x) (sym (set_next all old new done x e h)) (contains_right new (x ∷ done) x (contains_here x done)))

pub all_set : (all done : List Renaming) (R T : List RewriteRule) (rest : List Renaming) → rest ≡ [] → all ≡ rest ++ done → AreSetBy done R T → AreSetBy all R T
all_set all done R T rest e h s = subst (λ xs. AreSetBy xs R T) (sym (h ∙ ap (λ xs. xs ++ done) e)) s

pub rewrite_length : (rules : List Rule) → length (rewrite_rules rules) ≡ length rules
rewrite_length rules = length-map rules rewrite_rule

-- the rule at an index of a list
pub listed_rule : (rules : List Rule) (i : ℕ) (d : Rule) → i < length rules → rule_at (rewrite_rules rules) i ≡ rewrite_rule (get_or rules i d)
listed_rule rules i d l = get_or_default (rewrite_rules rules) i no_rule (rewrite_rule d) (let n = rewrite_length rules in omega arith) ∙ get_or-map rewrite_rule rules i d

module _ (w letter : Exponents) where
  -- a rule is renamed to one other
  pub renamed_unique : (r s t : RewriteRule) → IsRenamedRule w letter r s → IsRenamedRule w letter r t → s ≡ t
  renamed_unique r s t h k = ap (λ u. record { left = u; right = s.right }) (h.left ∙ sym k.left) ∙ ap (λ a. record { left = t.left; right = a }) right
    where
      right : s.right ≡ t.right
      right =
          ⊎_elim
          (λ a. ⊎_elim (λ b. a.1 ∙ sym b.1) (λ b. absurd (a.0 b.0)) k.right)
          (λ a. ⊎_elim (λ b. absurd (b.0 a.0)) (λ b. a.1 ∙ sym b.1) k.right) h.right

  pub renamed_of : (R S : List RewriteRule) → AreRenamed w letter R S → (r : RewriteRule) → Contains R r → (s : RewriteRule) × Contains S s × IsRenamedRule w letter r s
  renamed_of R S h r c =
      let i = rule_index R r c in
      let l = i.1 in let n = h.number in
      (rule_at S i.0, contains_at S i.0 no_rule (omega arith), subst (λ t. IsRenamedRule w letter t (rule_at S i.0)) i.2 (h.each i.0 l))

  pub renamed_from : (R S : List RewriteRule) → AreRenamed w letter R S → (s : RewriteRule) → Contains S s → (r : RewriteRule) × Contains R r × IsRenamedRule w letter r s
  renamed_from R S h s c =
      let i = rule_index S s c in
      let l = i.1 in let n = h.number in
      (rule_at R i.0, contains_at R i.0 no_rule (omega arith), subst (IsRenamedRule w letter (rule_at R i.0)) i.2 (h.each i.0 (omega arith)))

  pub lead_renamed : (t : RewriteRule) → IsRenamedRule w letter (lead_rule w letter) t → t ≡ lead_rule w letter
  lead_renamed t h = ap (λ u. record { left = u; right = t.right }) h.left ∙ ap (λ a. record { left = w; right = a }) (⊎_elim (λ a. a.1) (λ a. a.1) h.right)

  -- the renamings of the rules are those of the rules with that of the new lead
  pub renamings_pushed : (R : List RewriteRule) (list : List Renaming) → letter ≢ w → AreRenamings w letter R (length R) list →
      AreRenamings w letter (R ++ lead_rule w letter ∷ []) (length (R ++ lead_rule w letter ∷ [])) list
  renamings_pushed R list ne h = record {
    each = λ x c. let r = h.each x c in let l = r.within in record {
      within = let a = long in omega arith;
      right = subst (λ (t : RewriteRule). t.right ≡ Some w) (sym (get_or-append R (lead_rule w letter ∷ []) no_rule x.index l)) r.right;
      becomes = r.becomes;
    };
    all = λ k l e. ⊎_elim
        (λ q. absurd (ne (some_same (sym (ap (λ (t : RewriteRule). t.right) (ap (rule_at (R ++ lead_rule w letter ∷ [])) q ∙ get_or-append_seam R (lead_rule w letter) [] no_rule)) ∙ e))))
        (λ n.
        let b : k < length R = (let a = long in omega (arith, n)) in
        h.all k b (subst (λ (t : RewriteRule). t.right ≡ Some w) (get_or-append R (lead_rule w letter ∷ []) no_rule k b) e)) (numbers_or_not k (length R));
  }
    where
      long : length (R ++ lead_rule w letter ∷ []) ≡ length R + 1
      long = length-append R (lead_rule w letter ∷ [])

      some_same : {x y : Exponents} → Some x ≡ Some y → x ≡ y
      some_same e = cc
