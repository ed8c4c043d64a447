-- How a completion begins, goes on and ends.
use Rattle.std.proofs.Common.{◌≡◌, ◌≢◌, ℕ, zero, suc, ◌+◌, ◌≤◌, ◌<◌, refl, sym, ◌∙◌, ap, subst, List, [], ◌∷◌, ◌++◌, length, get_or, length-append, arith, ◌⊎◌, inl, inr, ⊎_elim, Some, None, Contains}
use Rattle.std.specs.Prelude.{AllPairs}
use Rattle.std.proofs.lemmas.List.{get_or_append_left, get_or-append-add}
use Rattle.std.proofs.lemmas.List.Elements.{Contains-append_cases}
use Rattle.std.proofs.lemmas.List.Quantifiers.{all_pairs_push}
use Rattle.monomial_order.specs.Monomial.{Exponents, IsMonomial, Divides, AreCoprime, variable, weighted_degree, least_common_multiple as lcm}
use Rattle.monomial_order.specs.laws.Cofactors.{least_common_multiple_least, Divides-least_common_multiple, Divides-least_common_multiple_right}
use Rattle.monomial_order.specs.laws.Monomial.{IsMonomial-least_common_multiple}
use Rattle.monomial_order.specs.laws.Comparing.{equal_or_not, le_or_not, proper_divisor, three_ways}
use Rattle.monomial_order.specs.laws.Lists.{contains_at, contains_cases, contains_here, contains_there, contains_none, contains_left, contains_right, contains_map, contains_one}
use Rattle.word_laws.specs.Words.{Letters, AreLetters, word_order_of, image_of, IsWord, IsSmaller, IsZeroClosed}
use Rattle.word_laws.specs.laws.Words.{word_laws, x_word, image_same}
use Rattle.word_rewriting.specs.Rewriting.{WordOrZero, RewriteRule, Rewrites, stays, AreJoinable, IsInNormalForm, KeepsRules}
use Rattle.word_rewriting.specs.Completeness.{lead_letter, with_leads, AreInX, IsRightSide, AreRewriteRules, HasImage, GeneratesReducible, AreComplete}
use Rattle.word_rewriting.specs.Completion.{RulePair, AreConnected, directly, turned, through, HasConnectedPair, AreAbove, IsCompletion, HasPairsWith, lead_rules, zero_rules, first_rules, Orients, lead_rule_of, zero_rule_of}
use Rattle.word_rewriting.specs.laws.Rewriting.{rule_rewrites, rewrites_trans, more_rewrites, more_joinable}
use Rattle.word_rewriting.specs.laws.Criterion.{decreasing_rules}
use Rattle.word_rewriting.specs.laws.NormalForms.{rewrites_image}
use Rattle.word_rewriting.specs.laws.Connected.{later_connected, lift}
use Rattle.word_rewriting.specs.laws.Complete.{GenerateZeros, generates_complete}
use Rattle.word_rewriting.specs.laws.MoreLeads.{word_stays, rules_stay, new_letter_smaller}

-- with more rules, and another list that has the listed pairs connected, what is connected stays so
connected_stays : (R S : List RewriteRule) (old new : List RulePair) → KeepsRules R S →
    ((r s : RewriteRule) → Contains old (r, s) → HasConnectedPair S new r s) → (l : Exponents) {r s : RewriteRule} → Divides r.left l → Divides s.left l →
    AreConnected R old l r s → AreConnected S new l r s
connected_stays R S old new h k l dr ds (directly {r = r} {s = s} x) =
    ⊎_elim (λ co. directly (inl co))
    (λ y. ⊎_elim (λ z. lift S new (lcm r.left s.left) l (least_common_multiple_least r.left s.left l dr ds) (k r s z)) (λ z. directly (inr (inr (λ a b p. more_joinable R S h a b (z a b p))))) y) x
connected_stays R S old new h k l dr ds (turned x) = turned (connected_stays R S old new h k l ds dr x)
connected_stays R S old new h k l dr ds (through t ht dt x y) = through t (h t ht) dt (connected_stays R S old new h k l dr dt x) (connected_stays R S old new h k l dt ds y)

more_connected : (R S : List RewriteRule) (old new : List RulePair) → KeepsRules R S → ((p : RulePair) → Contains old p → Contains new p) →
    (r s : RewriteRule) → HasConnectedPair R old r s → HasConnectedPair S new r s
more_connected R S old new h k r s x =
    connected_stays R S old new h (λ r s z. directly (inr (inl (k (r, s) z)))) (lcm r.left s.left) (Divides-least_common_multiple r.left s.left) (Divides-least_common_multiple_right r.left s.left) x

-- the pairs of the rules with one more
pub pairs_push : (R : List RewriteRule) (t : RewriteRule) (old new : List RulePair) → HasPairsWith R t old new →
    AllPairs (HasConnectedPair R old) R → AllPairs (HasConnectedPair (R ++ t ∷ []) new) (R ++ t ∷ [])
pairs_push R t old new h all =
    all_pairs_push (HasConnectedPair (R ++ t ∷ []) new) R t
    (λ i j d l n. more_connected R (R ++ t ∷ []) old new (contains_left R (t ∷ [])) h.keeps (get_or R i d) (get_or R j d) (all i j d l n))
    (λ i d l. h.each (get_or R i d) (contains_at R i d l))

rules_push : (IsZero : Exponents → Type 0) (L : Letters) (R : List RewriteRule) (t : RewriteRule) → AreRewriteRules IsZero L R → IsWord L t.left × IsRightSide IsZero L t.left t.right → AreRewriteRules IsZero L (R ++ t ∷ [])
rules_push IsZero L R t rules h r k =
    ⊎_elim (rules r) (λ b. ⊎_elim (λ e. subst (λ x. IsWord L x.left × IsRightSide IsZero L x.left x.right) e h) (λ n. absurd (contains_none r n)) (contains_cases t [] r b))
    (Contains-append_cases R (t ∷ []) r k)

module _ (IsZero : Exponents → Type 0) (Z : List Exponents) (L : Letters) where
  -- a rule is added
  pub adds : (R : List RewriteRule) (t : RewriteRule) (old new : List RulePair) → IsCompletion IsZero Z L R old →
      IsWord L t.left × IsRightSide IsZero L t.left t.right → HasPairsWith R t old new → IsCompletion IsZero Z L (R ++ t ∷ []) new
  adds R t old new h rule more = record {
    rules = rules_push IsZero L R t h.rules rule;
    leads = λ i l. more_joinable R (R ++ t ∷ []) (contains_left R (t ∷ [])) (Some (get_or L.leads i [])) (Some (lead_letter L i)) (h.leads i l);
    zeros = λ z k. more_rewrites R (R ++ t ∷ []) (contains_left R (t ∷ [])) (h.zeros z k);
    pairs = pairs_push R t old new more h.pairs;
  }

  -- listed pairs are left out if their rules are connected without them
  pub joins : (R : List RewriteRule) (old new : List RulePair) → IsCompletion IsZero Z L R old →
      ((r s : RewriteRule) → Contains old (r, s) → HasConnectedPair R new r s) → IsCompletion IsZero Z L R new
  joins R old new h k = record {
    rules = h.rules;
    leads = h.leads;
    zeros = h.zeros;
    pairs = λ i j d l n.
        let r = get_or R i d in
        let s = get_or R j d in
        connected_stays R R old new (λ x y. y) k (lcm r.left s.left) (Divides-least_common_multiple r.left s.left) (Divides-least_common_multiple_right r.left s.left) (h.pairs i j d l n);
  }

  -- if the pairs in the list are above the degree c, the rules are complete to c
  pub ends : AreLetters L → (R : List RewriteRule) (listed : List RulePair) (c : ℕ) → IsCompletion IsZero Z L R listed →
      AreAbove (word_order_of L) c listed → AreComplete Z L R c
  ends H R listed c h high = record {
    leads = λ i l e. h.leads i l;
    zeros = λ z k e. h.zeros z k;
    pairs = later_connected (word_order_of L) (word_laws L H) R (decreasing_rules IsZero L R h.rules) c listed high h.pairs;
  }

  -- rules whose left sides generate the reducible words to c go on with the pairs above c
  pub restarts : AreLetters L → IsZeroClosed (length L.degrees) IsZero → (R : List RewriteRule) (listed : List RulePair) (c : ℕ) → AreRewriteRules IsZero L R → GenerateZeros IsZero L Z c → GeneratesReducible IsZero L R c →
      ((m : Exponents) → Contains L.leads m → weighted_degree L.degrees m ≤ c) → ((z : Exponents) → Contains Z z → weighted_degree L.degrees z ≤ c) →
      AllPairs (λ r s. c < (word_order_of L).degree (lcm r.left s.left) → AreCoprime r.left s.left ⊎ Contains listed (r, s)) R →
      IsCompletion IsZero Z L R listed
  restarts H closed R listed c rules zs generates low_leads low_zeros above =
      let k = generates_complete IsZero L H R rules Z closed c zs generates in
      record {
        rules = rules;
        leads = λ i l. k.leads i l (low_leads (get_or L.leads i []) (contains_at L.leads i [] l));
        zeros = λ z n. k.zeros z n (low_zeros z n);
        pairs = λ i j d l n. ⊎_elim
            (λ low. directly (inr (inr (k.pairs (get_or R i d) (get_or R j d) (contains_at R i d (omega arith)) (contains_at R j d n) low))))
            (λ high. directly (⊎_elim inl (λ y. inr (inl y)) (above i j d l n (omega (arith, high)))))
            (le_or_not ((word_order_of L).degree (lcm (get_or R i d).left (get_or R j d).left)) c);
      }

  -- two normal forms of one image that differ make a rule
  pub orients : AreLetters L → (m : Exponents) (u v : WordOrZero) → HasImage IsZero L m u → HasImage IsZero L m v → u ≢ v →
      (t : RewriteRule) × Orients t u v × (IsWord L t.left × IsRightSide IsZero L t.left t.right)
  orients H m None None hu hv ne = absurd (ne refl)
  orients H m None (Some v) hu hv ne = (record { left = v; right = None }, inr (refl, refl), (hv.0, subst IsZero (sym hv.1) hu))
  orients H m (Some u) None hu hv ne = (record { left = u; right = None }, inl (refl, refl), (hu.0, subst IsZero (sym hu.1) hv))
  orients H m (Some u) (Some v) hu hv ne =
      ⊎_elim
      (λ l. (record { left = v; right = Some u }, inr (refl, refl), (hv.0, record { word = hu.0; image = hu.1 ∙ sym hv.1; less = l })))
      (λ b. ⊎_elim (λ e. absurd (ne (ap Some e)))
      (λ l. (record { left = u; right = Some v }, inl (refl, refl), (hu.0, record { word = hv.0; image = hv.1 ∙ sym hu.1; less = l }))) b)
      (three_ways (word_order_of L) (word_laws L H) u v)

-- such a rule joins what rewrites to them
pub oriented_joins : (R : List RewriteRule) (t : RewriteRule) (a b u v : WordOrZero) → Orients t u v → Rewrites R a u → Rewrites R b v → AreJoinable (R ++ t ∷ []) a b
oriented_joins R t a b u v o ha hb =
    ⊎_elim
    (λ s. (v, rewrites_trans (R ++ t ∷ []) (old ha) (subst (λ x. Rewrites (R ++ t ∷ []) x v) s.0 (subst (Rewrites (R ++ t ∷ []) (Some t.left)) s.1 last)), old hb))
    (λ s. (u, old ha, rewrites_trans (R ++ t ∷ []) (old hb) (subst (λ x. Rewrites (R ++ t ∷ []) x u) s.0 (subst (Rewrites (R ++ t ∷ []) (Some t.left)) s.1 last))))
    o
  where
    old : {x y : WordOrZero} → Rewrites R x y → Rewrites (R ++ t ∷ []) x y
    old h = more_rewrites R (R ++ t ∷ []) (contains_left R (t ∷ [])) h

    last : Rewrites (R ++ t ∷ []) (Some t.left) t.right
    last = rule_rewrites (R ++ t ∷ []) t (contains_right R (t ∷ []) t (contains_here t []))

-- the rules of leads and zeros
lead_rule : (n : ℕ) (ms : List Exponents) (i : ℕ) → i < length ms → Contains (lead_rules n ms) (record { left = get_or ms i []; right = Some (variable (n + i)) })
lead_rule n [] i l = absurd (omega arith)
lead_rule n (m ∷ ms) zero l =
    subst (λ k. Contains (lead_rules n (m ∷ ms)) (record { left = m; right = Some (variable k) })) (let e : n ≡ n + 0 = omega arith in e) (contains_here (record { left = m; right = Some (variable n) }) (lead_rules (suc n) ms))
lead_rule n (m ∷ ms) (suc i) l =
    subst (λ k. Contains (lead_rules n (m ∷ ms)) (record { left = get_or ms i []; right = Some (variable k) })) (let e : suc n + i ≡ n + suc i = omega arith in e)
    (contains_there (record { left = m; right = Some (variable n) }) (lead_rules (suc n) ms) (record { left = get_or ms i []; right = Some (variable (suc n + i)) }) (lead_rule (suc n) ms i (omega arith)))

-- what holds of the rule of each lead holds of all
lead_rules_all : (P : RewriteRule → Type 0) (n : ℕ) (ms : List Exponents) → ((i : ℕ) → i < length ms → P (record { left = get_or ms i []; right = Some (variable (n + i)) })) →
    (r : RewriteRule) → Contains (lead_rules n ms) r → P r
lead_rules_all P n [] h r k = absurd (contains_none r k)
lead_rules_all P n (m ∷ ms) h r k =
    ⊎_elim (λ e. subst P e (subst (λ j. P (record { left = m; right = Some (variable j) })) (let e : n + 0 ≡ n = omega arith in e) (h 0 (omega arith))))
    (λ b. lead_rules_all P (suc n) ms (λ i l. subst (λ j. P (record { left = get_or ms i []; right = Some (variable j) })) (let e : n + suc i ≡ suc n + i = omega arith in e) (h (suc i) (omega arith))) r b)
    (contains_cases (record { left = m; right = Some (variable n) }) (lead_rules (suc n) ms) r k)

zero_rules_all : (P : RewriteRule → Type 0) (zs : List Exponents) → ((z : Exponents) → Contains zs z → P (record { left = z; right = None })) →
    (r : RewriteRule) → Contains (zero_rules zs) r → P r
zero_rules_all P [] h r k = absurd (contains_none r k)
zero_rules_all P (z ∷ zs) h r k =
    ⊎_elim (λ e. subst P e (h z (contains_here z zs))) (λ b. zero_rules_all P zs (λ y n. h y (contains_there z zs y n)) r b)
    (contains_cases (record { left = z; right = None }) (zero_rules zs) r k)

module _ (L : Letters) (H : AreLetters L) where
  abbrev without_leads : Letters
  without_leads = record { degrees = L.degrees; leads = [] }

  without_leads_letters : AreLetters without_leads
  without_leads_letters = record { positive = H.positive; leads = λ m k. absurd (contains_none m k); not_one = λ m k. absurd (contains_none m k) }

  -- the letter of a lead is smaller than the lead, written in the x
  pub letter_smaller : (i : ℕ) → i < length L.leads → IsSmaller L (get_or L.leads i []) (lead_letter L i)
  letter_smaller i l =
      let m = H.leads (get_or L.leads i []) (contains_at L.leads i [] l) in
      subst (λ j. IsSmaller L (get_or L.leads i []) (lead_letter L j)) (let e : 0 + i ≡ i = omega arith in e)
      (new_letter_smaller without_leads without_leads_letters L.leads (λ x k. (H.leads x k, H.not_one x k)) i l (get_or L.leads i []) (x_word without_leads without_leads_letters (get_or L.leads i []) m) (image_same without_leads without_leads_letters (get_or L.leads i []) m))

  module _ (IsZero : Exponents → Type 0) (Z : List Exponents) (in_x : AreInX L Z) (zero : (z : Exponents) → Contains Z z → IsZero z) where
    first_rules_rules : AreRewriteRules IsZero L (first_rules Z L)
    first_rules_rules r k =
        ⊎_elim
        (lead_rules_all (λ r. IsWord L r.left × IsRightSide IsZero L r.left r.right) (length L.degrees) L.leads
        (λ i l. (x_word L H (get_or L.leads i []) (H.leads (get_or L.leads i []) (contains_at L.leads i [] l)), letter_smaller i l)) r)
        (zero_rules_all (λ r. IsWord L r.left × IsRightSide IsZero L r.left r.right) Z
        (λ z n. (x_word L H z (in_x z n), subst IsZero (sym (image_same L H z (in_x z n))) (zero z n))) r)
        (Contains-append_cases (lead_rules (length L.degrees) L.leads) (zero_rules Z) r k)

    -- a completion begins with the rules of leads and zeros
    pub begins : (listed : List RulePair) → AllPairs (HasConnectedPair (first_rules Z L) listed) (first_rules Z L) → IsCompletion IsZero Z L (first_rules Z L) listed
    begins listed pairs = record {
      rules = first_rules_rules;
      leads = λ i l. (
        Some (lead_letter L i),
        rule_rewrites (first_rules Z L) (record { left = get_or L.leads i []; right = Some (lead_letter L i) })
            (contains_left (lead_rules (length L.degrees) L.leads) (zero_rules Z) _ (lead_rule (length L.degrees) L.leads i l)),
        stays,
      );
      zeros = λ z k. rule_rewrites (first_rules Z L) (record { left = z; right = None })
          (contains_right (lead_rules (length L.degrees) L.leads) (zero_rules Z) _ (contains_map (λ (z : Exponents). record { left = z; right = None }) Z z k));
      pairs = pairs;
    }

module _ (IsZero : Exponents → Type 0) (L : Letters) (H : AreLetters L) (closed : IsZeroClosed (length L.degrees) IsZero) (Z : List Exponents) where
  -- what a monomial in the x rewrites to has it for image
  x_image : (R : List RewriteRule) → AreRewriteRules IsZero L R → (m : Exponents) (a : WordOrZero) → IsMonomial (length L.degrees) m → Rewrites R (Some m) a → HasImage IsZero L m a
  x_image R rules m a hm h = rewrites_image IsZero L H R rules closed h m (x_word L H m hm, image_same L H m hm)

  -- a lead is added at the end, with the rule of its letter
  pub adds_lead : (R : List RewriteRule) (old new : List RulePair) (m u : Exponents) → IsCompletion IsZero Z L R old →
      IsMonomial (length L.degrees) m → m ≢ [] → Rewrites R (Some m) (Some u) → HasPairsWith R (lead_rule_of L u) old new →
      IsCompletion IsZero Z (with_leads L (m ∷ [])) (R ++ lead_rule_of L u ∷ []) new
  adds_lead R old new m u h hm ne to more = record {
    rules = rules_push IsZero (with_leads L (m ∷ [])) R t (rules_stay L (m ∷ []) IsZero IsZero (λ x z. z) R h.rules) (
      word_stays L (m ∷ []) u image.0,
      subst (λ j. IsSmaller (with_leads L (m ∷ [])) u (lead_letter L j)) (let e : length L.leads + 0 ≡ length L.leads = omega arith in e)
          (new_letter_smaller L H (m ∷ []) one 0 (omega arith) u image.0 image.1),
    );
    leads = λ i l. ⊎_elim (λ k. older i (let z = k in omega arith)) (λ k. newer i (let z = length-append L.leads (m ∷ []) in omega (arith, k))) (le_or_not (suc i) (length L.leads));
    zeros = λ z k. more_rewrites R (R ++ t ∷ []) (contains_left R (t ∷ [])) (h.zeros z k);
    pairs = pairs_push R t old new more h.pairs;
  }
    where
      t : RewriteRule
      t = lead_rule_of L u

      image : IsWord L u × (image_of L u ≡ m)
      image = x_image R h.rules m (Some u) hm to

      one : (x : Exponents) → Contains (m ∷ []) x → IsMonomial (length L.degrees) x × (x ≢ [])
      one x k = subst (λ y. IsMonomial (length L.degrees) y × (y ≢ [])) (contains_one m x k) (hm, ne)

      older : (i : ℕ) → i < length L.leads → AreJoinable (R ++ t ∷ []) (Some (get_or (L.leads ++ m ∷ []) i [])) (Some (lead_letter L i))
      older i l =
          subst (λ x. AreJoinable (R ++ t ∷ []) (Some x) (Some (lead_letter L i))) (sym (get_or_append_left L.leads (m ∷ []) [] i l))
          (more_joinable R (R ++ t ∷ []) (contains_left R (t ∷ [])) (Some (get_or L.leads i [])) (Some (lead_letter L i)) (h.leads i l))

      newer : (i : ℕ) → i ≡ length L.leads → AreJoinable (R ++ t ∷ []) (Some (get_or (L.leads ++ m ∷ []) i [])) (Some (lead_letter L i))
      newer i e =
          subst (λ j. AreJoinable (R ++ t ∷ []) (Some (get_or (L.leads ++ m ∷ []) j [])) (Some (lead_letter L j))) (sym e)
          (subst (λ x. AreJoinable (R ++ t ∷ []) (Some x) (Some (lead_letter L (length L.leads))))
          (sym (ap (λ j. get_or (L.leads ++ m ∷ []) j []) (let q : length L.leads ≡ length L.leads + 0 = omega arith in q) ∙ get_or-append-add L.leads (m ∷ []) 0 [])) (
            Some (lead_letter L (length L.leads)),
            rewrites_trans (R ++ t ∷ []) (more_rewrites R (R ++ t ∷ []) (contains_left R (t ∷ [])) to) (rule_rewrites (R ++ t ∷ []) t (contains_right R (t ∷ []) t (contains_here t []))),
            stays,
          ))

  -- what counts as zero grows
  pub more_zeros : (Y : Exponents → Type 0) → ((m : Exponents) → IsZero m → Y m) → (R : List RewriteRule) → AreRewriteRules IsZero L R → AreRewriteRules Y L R
  more_zeros Y more R rules r k = ((rules r k).0, side r.right (rules r k).1)
    where
      side : (a : WordOrZero) → IsRightSide IsZero L r.left a → IsRightSide Y L r.left a
      side None z = more (image_of L r.left) z
      side (Some v) s = s

  -- zeros that rewrite to zero are added
  pub adds_zeros : (Y : Exponents → Type 0) → ((m : Exponents) → IsZero m → Y m) → (R : List RewriteRule) (listed : List RulePair) (zs : List Exponents) →
      IsCompletion IsZero Z L R listed → ((z : Exponents) → Contains zs z → Rewrites R (Some z) None) → IsCompletion Y zs L R listed
  adds_zeros Y more R listed zs h to = record { rules = more_zeros Y more R h.rules; leads = h.leads; zeros = to; pairs = h.pairs }

  -- a zero is added, with the rule of a word to which it rewrites
  pub adds_zero_rule : (Y : Exponents → Type 0) → ((m : Exponents) → IsZero m → Y m) → (R : List RewriteRule) (old new : List RulePair) (z u : Exponents) →
      IsCompletion IsZero Z L R old → IsMonomial (length L.degrees) z → Y z → Rewrites R (Some z) (Some u) → HasPairsWith R (zero_rule_of u) old new →
      IsCompletion Y (Z ++ z ∷ []) L (R ++ zero_rule_of u ∷ []) new
  adds_zero_rule Y bigger R old new z u h hz yz to more = record {
    rules = rules_push Y L R t (more_zeros Y bigger R h.rules) (image.0, subst Y (sym image.1) yz);
    leads = λ i l. more_joinable R (R ++ t ∷ []) (contains_left R (t ∷ [])) (Some (get_or L.leads i [])) (Some (lead_letter L i)) (h.leads i l);
    zeros = λ y k. ⊎_elim (λ a. more_rewrites R (R ++ t ∷ []) (contains_left R (t ∷ [])) (h.zeros y a))
        (λ b. ⊎_elim (λ e. subst (λ x. Rewrites (R ++ t ∷ []) (Some x) None) e last) (λ n. absurd (contains_none y n)) (contains_cases z [] y b))
        (Contains-append_cases Z (z ∷ []) y k);
    pairs = pairs_push R t old new more h.pairs;
  }
    where
      t : RewriteRule
      t = zero_rule_of u

      image : IsWord L u × (image_of L u ≡ z)
      image = x_image R h.rules z (Some u) hz to

      last : Rewrites (R ++ t ∷ []) (Some z) None
      last = rewrites_trans (R ++ t ∷ []) (more_rewrites R (R ++ t ∷ []) (contains_left R (t ∷ [])) to) (rule_rewrites (R ++ t ∷ []) t (contains_right R (t ∷ []) t (contains_here t [])))

-- the pairs of a rule whose left side is in normal form are above its degree
pub pairs_above : (L : Letters) → AreLetters L → (R : List RewriteRule) → ((r : RewriteRule) → Contains R r → IsWord L r.left) → (t : RewriteRule) → IsWord L t.left → IsInNormalForm R (Some t.left) →
    (r : RewriteRule) → Contains R r → (word_order_of L).degree t.left < (word_order_of L).degree (lcm r.left t.left)
pairs_above L H R words t ht none r hr =
    ⊎_elim (λ e. absurd (none (r, hr, subst (Divides r.left) (sym e) (Divides-least_common_multiple r.left t.left))))
    (λ ne. (proper_divisor (word_order_of L) (word_laws L H) t.left (lcm r.left t.left)
    (IsMonomial-least_common_multiple (word_order_of L).places r.left t.left (words r hr) ht) ht.trimmed (Divides-least_common_multiple_right r.left t.left) ne).1)
    (equal_or_not t.left (lcm r.left t.left))
