-- One degree of a completion.
use Rattle.std.proofs.Math.ListN.{get_or-append}
use Rattle.std.proofs.Math.Seq.{get_or-append_seam}
use Rattle.std.proofs.lemmas.List.{append_assoc, get_or_default}
use Rattle.std.proofs.Common.{◌≡◌, ℕ, suc, ◌<◌, ◌≤◌, append-nil, sym, ◌∙◌, ap, subst, List, [], ◌∷◌, ◌++◌, length, length-append, get_or, arith, ◌⊎◌, ⊎_elim, Some, None}
use Rattle.std.specs.Prelude.{Contains, AllPairs}
use Rattle.monomial_order.specs.Monomial.{Exponents, Divides, IsMultiple, AreCoprime, least_common_multiple as lcm, weighted_degree}
use Rattle.monomial_order.specs.laws.Comparing.{equal_or_not, proper_divisor, le_or_not}
use Rattle.monomial_order.specs.laws.Lists.{contains_at, contains_cases, contains_here, contains_left, contains_none, contains_right, contains_either, contains_one}
use Rattle.word_laws.specs.Words.{Letters, AreLetters, word_order_of, image_of, IsWord}
use Rattle.word_laws.specs.laws.Words.{word_laws, degree_image, degree_x, x_word, image_same}
use Rattle.word_laws.specs.laws.Reducible.{multiple_closed}
use Rattle.word_rewriting.specs.Rewriting.{WordOrZero, RewriteRule, multiple, Rewrites, AreJoinable, IsInNormalForm, IsNormalForm, IsCriticalPair, HasJoinablePair, JoinsPair, KeepsRules}
use Rattle.word_rewriting.specs.Completeness.{lead_letter, AreInX, IsRightSide, HasImage, GeneratesReducible, AreComplete}
use Rattle.word_rewriting.specs.laws.Complete.{zero_multiples, complete_generates, generates_complete}
use Rattle.word_rewriting.specs.laws.Completion.{oriented_joins, pairs_above}
use Rattle.word_rewriting.specs.laws.Confluence.{IsBelow}
use Rattle.word_rewriting.specs.laws.Criterion.{decreasing_rules}
use Rattle.word_rewriting.specs.laws.NormalForms.{pair_images, rewrites_image}
use Rattle.word_rewriting.specs.laws.Pairs.{joinable_pair, pairs_enough}
use Rattle.word_rewriting.specs.laws.Rewriting.{joinable_itself, more_joinable, more_rewrites, rewrites_trans, rule_rewrites}
use Rattle.word_rules.specs.Rules.{no_rule, rule_at}
use Rattle.toric_ideal.specs.Rewriting.{AreExactRules}
use Rattle.toric_ideal.specs.Step.{pair_degree, AreBothZero, IsOriented, IsStep, ZerosVanish}

module _ (L : Letters) (H : AreLetters L) (Z : List Exponents) (in_x : AreInX L Z) where
  -- a word with the image of an oriented pair is the left side of a rule
  pub oriented_rule : (m : Exponents) (u v : WordOrZero) (t : RewriteRule) → HasImage (IsMultiple Z) L m u → HasImage (IsMultiple Z) L m v → IsOriented (word_order_of L) u v t →
      IsWord L t.left × IsRightSide (IsMultiple Z) L t.left t.right × (image_of L t.left ≡ m)
  oriented_rule m u v t hu hv o =
      ⊎_elim (λ e. sides t.right (subst (HasImage (IsMultiple Z) L m) (sym e.0) hu) (subst (HasImage (IsMultiple Z) L m) (sym e.1) hv) o.below)
      (λ e. sides t.right (subst (HasImage (IsMultiple Z) L m) (sym e.0) hv) (subst (HasImage (IsMultiple Z) L m) (sym e.1) hu) o.below) o.orients
    where
      right : (a : WordOrZero) → IsWord L t.left × (image_of L t.left ≡ m) → HasImage (IsMultiple Z) L m a → IsBelow (word_order_of L) t.left a → IsRightSide (IsMultiple Z) L t.left a
      right None h k b = subst (IsMultiple Z) (sym h.1) k
      right (Some w) h k b = record { word = k.0; image = k.1 ∙ sym h.1; less = b.1 }

      sides : (a : WordOrZero) → HasImage (IsMultiple Z) L m (Some t.left) → HasImage (IsMultiple Z) L m a → IsBelow (word_order_of L) t.left a →
          IsWord L t.left × IsRightSide (IsMultiple Z) L t.left a × (image_of L t.left ≡ m)
      sides a h k b = (h.0, right a h k b, h.1)

  module _ (c d : ℕ) (next : d ≡ suc c) (R : List RewriteRule) (exact : AreExactRules L Z c R) where
    pub step_start : IsStep L Z d R R
    step_start = record {
      more = [];
      whole = sym (append-nil R);
      rules = exact.rules;
      degree = λ r k. absurd (contains_none r k);
      apart = λ r s hr hs e. exact.reduced.left r s hr hs e;
      above = λ i j l m n. absurd (omega arith);
    }

    pub step_low : (S : List RewriteRule) → IsStep L Z d R S → (r : RewriteRule) → Contains S r → (word_order_of L).degree r.left ≤ d
    step_low S k r h =
        ⊎_elim (λ a. let e = exact.degree r a in omega arith) (λ b. let e = k.degree r b in omega arith)
        (contains_either R k.more r (subst (λ xs. Contains xs r) k.whole h))

    step_old : (S : List RewriteRule) → IsStep L Z d R S → KeepsRules R S
    step_old S k r h = subst (λ xs. Contains xs r) (sym k.whole) (contains_left R k.more r h)

    -- a further rule of degree d, whose left side is in normal form
    pub step_push : (S : List RewriteRule) (t : RewriteRule) → IsStep L Z d R S → IsWord L t.left × IsRightSide (IsMultiple Z) L t.left t.right → IsInNormalForm S (Some t.left) →
        (word_order_of L).degree t.left ≡ d → IsStep L Z d R (S ++ t ∷ [])
    step_push S t k are normal dt = record {
      more = k.more ++ t ∷ [];
      whole = ap (λ xs. xs ++ t ∷ []) k.whole ∙ append_assoc R k.more (t ∷ []);
      rules = λ r h. push_cases (λ x. IsWord L x.left × IsRightSide (IsMultiple Z) L x.left x.right) k.rules are r h;
      degree = λ r h. ⊎_elim (k.degree r) (λ b. ⊎_elim (λ e. ap (λ (x : RewriteRule). (word_order_of L).degree x.left) (sym e) ∙ dt) (λ z. absurd (contains_none r z)) (contains_cases t [] r b)) (contains_either k.more (t ∷ []) r h);
      apart = λ r s hr hs e. apart r s (contains_either S (t ∷ []) r hr) (contains_either S (t ∷ []) s hs) e;
      above = λ i j l m n. above i j l m n;
    }
      where
        push_cases : (P : RewriteRule → Type 0) → ((r : RewriteRule) → Contains S r → P r) → P t → (r : RewriteRule) → Contains (S ++ t ∷ []) r → P r
        push_cases P h p r c = ⊎_elim (h r) (λ b. ⊎_elim (λ e. subst P e p) (λ z. absurd (contains_none r z)) (contains_cases t [] r b)) (contains_either S (t ∷ []) r c)

        -- a left side that the new one divides has its degree, so it is the same
        same_degree : (r : RewriteRule) → Contains S r → Divides t.left r.left → t.left ≡ r.left
        same_degree r h e =
            ⊎_elim (λ q. q)
            (λ ne. let p = (proper_divisor (word_order_of L) (word_laws L H) t.left r.left (k.rules r h).0 are.0.trimmed e ne).1 in let b = step_low S k r h in absurd (omega arith))
            (equal_or_not t.left r.left)

        apart : (r s : RewriteRule) → Contains S r ⊎ Contains (t ∷ []) r → Contains S s ⊎ Contains (t ∷ []) s → Divides s.left r.left → s.left ≡ r.left
        apart r s hr hs e =
            ⊎_elim
            (λ a. ⊎_elim (λ b. k.apart r s a b e)
            (λ b. let q = contains_one t s b in ap (λ (x : RewriteRule). x.left) (sym q) ∙ same_degree r a (subst (λ x. Divides x.left r.left) (sym q) e)) hs)
            (λ a. let p = contains_one t r a in ⊎_elim (λ b. absurd (normal (s, b, subst (λ x. Divides s.left x.left) (sym p) e)))
            (λ b. ap (λ (x : RewriteRule). x.left) (sym (contains_one t s b) ∙ p)) hs)
            hr

        above : (i j : ℕ) → i < j → length R ≤ j → j < length (S ++ t ∷ []) → d < pair_degree (word_order_of L) (S ++ t ∷ []) i j
        above i j l m n =
            let whole = length-append S (t ∷ []) in
            let old : rule_at (S ++ t ∷ []) i ≡ rule_at S i = get_or-append S (t ∷ []) no_rule i (omega arith) in
            ⊎_elim
            (λ (b : suc j ≤ length S).
            subst (λ x. d < (word_order_of L).degree (lcm x.left (rule_at (S ++ t ∷ []) j).left)) (sym old)
            (subst (λ x. d < (word_order_of L).degree (lcm (rule_at S i).left x.left)) (sym (get_or-append S (t ∷ []) no_rule j b)) (k.above i j l m b)))
            (λ b.
            let q : j ≡ length S = omega (arith, b) in
            let new : rule_at (S ++ t ∷ []) j ≡ t = ap (rule_at (S ++ t ∷ [])) q ∙ get_or-append_seam S t [] no_rule in
            let p = pairs_above L H S (λ r h. (k.rules r h).0) t are.0 normal (rule_at S i) (contains_at S i no_rule (omega arith)) in
            subst (λ x. d < (word_order_of L).degree (lcm x.left (rule_at (S ++ t ∷ []) j).left)) (sym old)
            (subst (λ x. d < (word_order_of L).degree (lcm (rule_at S i).left x.left)) (sym new) (omega arith)))
            (le_or_not (suc j) (length S))

    -- what a pair of degree d needs: its left sides are coprime, both rules go to zero, or it is joinable
    abbrev pub IsDone : List RewriteRule → RewriteRule → RewriteRule → Type 0
    IsDone S r s = AreCoprime r.left s.left ⊎ (AreBothZero r s ⊎ HasJoinablePair S r s)

    done_more : (S T : List RewriteRule) → KeepsRules S T → (r s : RewriteRule) → HasJoinablePair S r s → HasJoinablePair T r s
    done_more S T more r s h a b p = more_joinable S T more a b (h a b p)

    both_zero : (S : List RewriteRule) (r s : RewriteRule) → AreBothZero r s → HasJoinablePair S r s
    both_zero S r s z a b p =
        let x : None ≡ a = ap (multiple p.0.cofactor) (sym z.0) ∙ p.0.result in
        let y : None ≡ b = ap (multiple p.1.cofactor) (sym z.1) ∙ p.1.result in
        subst (λ u. AreJoinable S u b) x (subst (AreJoinable S None) y (joinable_itself S None))

    -- once leads, zeros and pairs of degree d are done, the left sides generate the reducible words
    pub step_generates : (S : List RewriteRule) → IsStep L Z d R S → ((m : Exponents) → Contains L.leads m → weighted_degree L.degrees m ≤ c) → ZerosVanish L d S Z →
        ((i j : ℕ) → i < j → j < length R → pair_degree (word_order_of L) R i j ≡ d → IsDone S (rule_at R i) (rule_at R j)) → GeneratesReducible (IsMultiple Z) L S d
    step_generates S k low vanish pairs =
        complete_generates (IsMultiple Z) L H S k.rules Z d (zero_multiples L Z in_x d)
        (record {
          leads = λ i l e. more_joinable S S (λ r h. h) (Some (get_or L.leads i [])) (Some (lead_letter L i))
              (more_joinable R S (step_old S k) (Some (get_or L.leads i [])) (Some (lead_letter L i)) (old.leads i l (low (get_or L.leads i []) (contains_at L.leads i [] l))));
          zeros = λ z h e. ⊎_elim (λ b. more_rewrites R S (step_old S k) (old.zeros z h b)) (λ n. vanish z h (omega (arith, n))) (le_or_not (weighted_degree L.degrees z) c);
          pairs = pairs_enough (word_order_of L) S (decreasing_rules (IsMultiple Z) L S k.rules) d later;
        })
      where
        old : AreComplete Z L R c
        old = generates_complete (IsMultiple Z) L H R exact.rules Z (multiple_closed (length L.degrees) Z) c (zero_multiples L Z in_x c) exact.generates

        low_pair : (i j : ℕ) → i < j → j < length R → pair_degree (word_order_of L) R i j ≤ d → ¬ AreCoprime (rule_at R i).left (rule_at R j).left → HasJoinablePair S (rule_at R i) (rule_at R j)
        low_pair i j l m e ne =
            ⊎_elim
            (λ b. done_more R S (step_old S k) (rule_at R i) (rule_at R j) (old.pairs (rule_at R i) (rule_at R j) (contains_at R i no_rule (omega arith)) (contains_at R j no_rule m) b))
            (λ n. ⊎_elim (λ x. absurd (ne x)) (λ y. ⊎_elim (both_zero S (rule_at R i) (rule_at R j)) (λ x. x) y) (pairs i j l m (omega (arith, n))))
            (le_or_not (pair_degree (word_order_of L) R i j) c)

        at_old : (i : ℕ) (q : RewriteRule) → i < length R → get_or S i q ≡ rule_at R i
        at_old i q l = ap (λ xs. get_or xs i q) k.whole ∙ (get_or-append R k.more q i l ∙ get_or_default R i q no_rule l)

        later : AllPairs (λ r s. ¬ AreCoprime r.left s.left → JoinsPair (word_order_of L) S d r s) S
        later i j q l m =
            ⊎_elim
            (λ (b : suc j ≤ length R).
            subst (λ x. ¬ AreCoprime x.left (get_or S j q).left → JoinsPair (word_order_of L) S d x (get_or S j q)) (sym (at_old i q (omega arith)))
            (subst (λ x. ¬ AreCoprime (rule_at R i).left x.left → JoinsPair (word_order_of L) S d (rule_at R i) x) (sym (at_old j q b))
            (λ ne e. low_pair i j l b e ne)))
            (λ n ne e.
            let p = k.above i j l (omega (arith, n)) m in
            let x : get_or S i q ≡ rule_at S i = get_or_default S i q no_rule (omega arith) in
            let y : get_or S j q ≡ rule_at S j = get_or_default S j q no_rule m in
            let z : (word_order_of L).degree (lcm (get_or S i q).left (get_or S j q).left) ≡ pair_degree (word_order_of L) S i j =
            ap (λ (u : RewriteRule). (word_order_of L).degree (lcm u.left (get_or S j q).left)) x ∙ ap (λ (u : RewriteRule). (word_order_of L).degree (lcm (rule_at S i).left u.left)) y in
            absurd (omega arith))
            (le_or_not (suc j) (length R))

    -- normal forms of the members of a pair that are the same join it
    pub same_forms : (S : List RewriteRule) (r s : RewriteRule) (a b u v : WordOrZero) → IsCriticalPair r s a b → IsNormalForm S a u → IsNormalForm S b v → u ≡ v → HasJoinablePair S r s
    same_forms S r s a b u v p hu hv e = joinable_pair S r s a b p (v, subst (Rewrites S a) e hu.rewrites, hv.rewrites)

    -- and others are joined by a rule, which is a further rule of degree d
    pub other_forms : (S : List RewriteRule) → IsStep L Z d R S → (r s : RewriteRule) → Contains S r → Contains S s → (word_order_of L).degree (lcm r.left s.left) ≡ d →
        (a b u v : WordOrZero) → IsCriticalPair r s a b → IsNormalForm S a u → IsNormalForm S b v → (t : RewriteRule) → IsOriented (word_order_of L) u v t →
        IsStep L Z d R (S ++ t ∷ []) × HasJoinablePair (S ++ t ∷ []) r s
    other_forms S k r s hr hs dp a b u v p hu hv t o =
        let i = pair_images (IsMultiple Z) L H S k.rules (multiple_closed (length L.degrees) Z) r s hr hs a b p in
        let m = image_of L (lcm r.left s.left) in
        let x = oriented_rule m u v t (rewrites_image (IsMultiple Z) L H S k.rules (multiple_closed (length L.degrees) Z) hu.rewrites m i.0)
        (rewrites_image (IsMultiple Z) L H S k.rules (multiple_closed (length L.degrees) Z) hv.rewrites m i.1) o in
        let n : IsInNormalForm S (Some t.left) = ⊎_elim (λ e. subst (IsInNormalForm S) (sym e.0) hu.normal) (λ e. subst (IsInNormalForm S) (sym e.0) hv.normal) o.orients in
        let e : (word_order_of L).degree t.left ≡ d = sym (degree_image L H t.left) ∙ (ap (word_order_of L).degree x.2 ∙ (degree_image L H (lcm r.left s.left) ∙ dp)) in
        (step_push S t k (x.0, x.1) n e, joinable_pair (S ++ t ∷ []) r s a b p (oriented_joins S t a b u v o.orients hu.rewrites hv.rewrites))

    -- a zero of degree d has a rule for its normal form
    pub zero_pushed : (S : List RewriteRule) → IsStep L Z d R S → (z u : Exponents) → Contains Z z → weighted_degree L.degrees z ≡ d → IsNormalForm S (Some z) (Some u) →
        IsStep L Z d R (S ++ record { left = u; right = None } ∷ []) × Rewrites (S ++ record { left = u; right = None } ∷ []) (Some z) None
    zero_pushed S k z u hz dz n =
        let hx = in_x z hz in
        let i = rewrites_image (IsMultiple Z) L H S k.rules (multiple_closed (length L.degrees) Z) n.rewrites z (x_word L H z hx, image_same L H z hx) in
        let e : (word_order_of L).degree u ≡ d = sym (degree_image L H u) ∙ (ap (word_order_of L).degree i.1 ∙ (degree_x L H z hx ∙ dz)) in
        let t : RewriteRule = record { left = u; right = None } in (
          step_push S t k (i.0, subst (IsMultiple Z) (sym i.1) (z, hz, λ p. omega arith)) n.normal e,
          rewrites_trans (S ++ t ∷ []) (more_rewrites S (S ++ t ∷ []) (contains_left S (t ∷ [])) n.rewrites) (rule_rewrites (S ++ t ∷ []) t (contains_right S (t ∷ []) t (contains_here t []))),
        )
