-- The listing with one lead more.
use Rattle.std.proofs.Common.{◌≡◌, ◌≢◌, ℕ, ◌+◌, ◌<◌, ◌≤◌, refl, sym, ◌∙◌, ap, subst, List, [], ◌∷◌, ◌++◌, length, length-append, take, drop, get_or, arith, ◌⊎◌, inl, inr, ⊎_elim, Some, None, false}
use Rattle.std.specs.Prelude.{map, Contains, AllPairs}
use Rattle.std.proofs.lemmas.List.{drop-append-le, ext_get_or, get_or_default, map-append, take-append-drop, take-append-le}
use Rattle.std.proofs.Math.ListN.{get_or-append}
use Rattle.std.proofs.lemmas.List.Quantifiers.{all_pairs_push}
use Rattle.monomial_order.specs.Monomial.{Exponents, variable, weighted_degree, least_common_multiple as lcm, IsMonomial, IsMultiple, AreCoprime}
use Rattle.monomial_order.specs.MonomialOrder.{IsIncreasing, MonomialOrder}
use Rattle.monomial_order.specs.laws.Monomial.{variable_length, variable_off, weighted_nil, IsMonomial-least_common_multiple}
use Rattle.monomial_order.specs.laws.Comparing.{proper_divisor}
use Rattle.monomial_order.specs.laws.Lists.{contains_at, contains_cases, contains_either, contains_here, contains_left, contains_map, contains_none, contains_right, contains_there, map_contains, contains_one}
use Rattle.word_laws.specs.Words.{Letters, AreLetters, lead_degrees, word_order_of, IsWord, IsLeast, IsReducible}
use Rattle.word_laws.specs.laws.Words.{word_laws, degree_image, degree_same, degree_x, x_word}
use Rattle.word_rewriting.specs.Rewriting.{RewriteRule}
use Rattle.word_rewriting.specs.Completeness.{lead_letter, with_leads, IsRightSide}
use Rattle.word_rewriting.specs.Renumbering.{AreLastLeads}
use Rattle.word_rewriting.specs.laws.Letters.{places_count, letter_image, letter_word}
use Rattle.word_rewriting.specs.laws.MoreLeads.{compare_stays}
use Rattle.word_rewriting.specs.laws.Renumbering.{last_letters}
use Rattle.word_rules.specs.Rules.{no_rule, rule_at, IsSmallWord}
use Rattle.degree_queue.specs.DegreeQueue.{list_of}
use Rattle.toric_ideal.specs.declared.completion.Completion.{Completion}
use Rattle.toric_ideal.specs.declared.rule.Rule.{Rule}
use Rattle.toric_ideal.specs.Leads.{AreLetterLeads, IsLetterLead}
use Rattle.toric_ideal.specs.declared.alphabet.Alphabet.{Alphabet}
use Rattle.toric_ideal.specs.Alphabet.{letters_of, IsAlphabet}
use Rattle.toric_ideal.proofs.LetterLemmas.{alphabet_order, x_degree}
use Rattle.monomial_order.specs.Orders.{word_order}
use Rattle.toric_ideal.specs.Increasing.{IsInsertionIndex}
use Rattle.toric_ideal.specs.Listing.{AreParted, IsDecided, AreRules, IsListing, IsNewLead}
use Rattle.toric_ideal.specs.Queue.{IsQueued}
use Rattle.toric_ideal.specs.Renaming.{lead_rule, IsRenamedRule, AreRenamed, IsLettered}
use Rattle.toric_ideal.specs.Rewriting.{rewrite_rule, rewrite_rules, AreExactRules, AreSameRules}
use Rattle.toric_ideal.specs.SortedRules.{words_of, IsInsertedRule}
use Rattle.toric_ideal.specs.State.{listing_of, AreLower, IsSound}
use Rattle.toric_ideal.specs.Step.{pair_degree, IsWithLetter}
use Rattle.toric_ideal.proofs.ExactRules.{exact_rules}
use Rattle.toric_ideal.proofs.Members.{contains_drop, contains_parts, contains_take}
use Rattle.toric_ideal.proofs.NewLead.{degree_stays, lead_exact}
use Rattle.toric_ideal.proofs.Renamings.{lead_renamed, listed_rule, renamed_from, renamed_of, renamed_unique, rewrite_length}
use Rattle.toric_ideal.proofs.RuleLists.{inserted_new, word_at, words_length}
use Rattle.toric_ideal.proofs.Skipping.{sum_skipped}
use Rattle.toric_ideal.proofs.SoundListings.{listed_there, sound_exact}

-- a list increases in each order that compares its members alike
pub increasing_alike : (O P : MonomialOrder) (ms : List Exponents) → ((v w : Exponents) → Contains ms v → Contains ms w → P.compare v w ≡ O.compare v w) → IsIncreasing O ms → IsIncreasing P ms
increasing_alike O P [] same h = tt
increasing_alike O P (m ∷ []) same h = tt
increasing_alike O P (m ∷ (n ∷ ms)) same h = (
  same m n (contains_here m (n ∷ ms)) (contains_there m (n ∷ ms) n (contains_here n ms)) ∙ h.0,
  increasing_alike O P (n ∷ ms) (λ v w a b. same v w (contains_there m (n ∷ ms) v a) (contains_there m (n ∷ ms) w b)) h.1,
)

module _ (w : Completion) (s : IsSound w) (m : Exponents) (n : IsNewLead (listing_of w) m) where
  abbrev L : Letters
  L = letters_of w.alphabet

  abbrev M : Letters
  M = with_leads L (m ∷ [])

  H : AreLetters L
  H = s.listing.letters

  not_one : m ≢ []
  not_one e = n.fresh [] (record { trimmed = tt; within = omega arith }, sum_skipped (length L.degrees) (length L.degrees) [] (omega arith) (λ j l. refl)) (sym e)

  pub new_lead : IsLetterLead L.degrees m
  new_lead =
      let e = degree_x L H m n.monomial in
      let p = (proper_divisor (word_order_of L) (word_laws L H) [] m (x_word L H m n.monomial) tt (λ i. omega arith) (λ q. not_one (sym q))).1 in
      let d = n.degree in let l = s.listing.small in
      record { monomial = n.monomial; positive = omega arith; small = omega arith }

  pub last : AreLastLeads L w.degree (m ∷ [])
  last = record {
    in_x = λ x k. subst (IsMonomial (length L.degrees)) (contains_one m x k) n.monomial;
    not_one = λ x k. subst (λ y. y ≢ []) (contains_one m x k) not_one;
    degree = λ x k. subst (λ y. weighted_degree L.degrees y ≡ w.degree) (contains_one m x k) n.degree;
    distinct = λ i j d l k. absurd (omega arith);
  }

  -- the letter at the place after the last one
  pub letter_is : (k : ℕ) (l : Exponents) → k ≡ (word_order w.alphabet.order.x_degrees.items w.alphabet.order.s_degrees.items).places → l ≡ variable k → l ≡ lead_letter L (length L.leads + 0)
  letter_is k l e f =
      f ∙ ap variable (e ∙ (ap (λ (O : MonomialOrder). O.places) (alphabet_order w.alphabet s.alphabet) ∙
      (places_count L ∙ (let z : length L.degrees + length L.leads ≡ length L.degrees + (length L.leads + 0) = omega arith in z))))

  pub lead_decided : IsDecided (listing_of w) ((word_order_of L).degree m)
  lead_decided = inl (let e = degree_x L H m n.monomial in let d = n.degree in omega arith)

  lead_differs : (j : ℕ) (d : Exponents) → j < length L.leads → get_or L.leads j d ≢ m
  lead_differs j d l e =
      n.fresh (lead_letter L j) (
        letter_word L j l,
        sum_skipped (length L.degrees) (length L.degrees) (lead_letter L j) (omega arith) (λ i q. variable_off (length L.degrees + j) i (λ t. let r = t in absurd (omega arith))),
      )
      (letter_image L j ∙ (get_or_default L.leads j [] d l ∙ e))

  pub pushed_leads : AreLetterLeads L.degrees (L.leads ++ m ∷ [])
  pushed_leads x c = ⊎_elim (λ a. s.listing.leads x a) (λ b. subst (IsLetterLead L.degrees) (contains_one m x b) new_lead) (contains_either L.leads (m ∷ []) x c)

  pub pushed_distinct : AllPairs (λ m n. m ≢ n) (L.leads ++ m ∷ [])
  pushed_distinct = all_pairs_push (λ m n. m ≢ n) L.leads m s.listing.distinct lead_differs

  pub pushed_parted : AreParted L.degrees w.degree (L.leads ++ m ∷ []) (take w.settled_count (L.leads ++ m ∷ [])) (drop w.settled_count (L.leads ++ m ∷ []))
  pushed_parted = record {
    whole = sym (take-append-drop w.settled_count (L.leads ++ m ∷ []));
    lower_less = λ x c. s.parted.lower_less x (subst (λ ys. Contains ys x) (take-append-le w.settled_count L.leads (m ∷ []) s.within) c);
    last_equal = λ x c. ⊎_elim (λ a. s.parted.last_equal x a) (λ b. subst (λ y. weighted_degree L.degrees y ≡ w.degree) (contains_one m x b) n.degree)
        (contains_either (drop w.settled_count L.leads) (m ∷ []) x (subst (λ ys. Contains ys x) (drop-append-le w.settled_count L.leads (m ∷ []) s.within) c));
  }

  pub pushed_within : w.settled_count ≤ length (L.leads ++ m ∷ [])
  pushed_within = let a = length-append L.leads (m ∷ []) in let b = s.within in omega arith

  HM : AreLetters M
  HM = last_letters L H w.degree (m ∷ []) last

  exact : AreExactRules L w.zeros.items w.degree w.table
  exact = sound_exact w s

  module _ (u : Exponents) (least : IsLeast L m u) where
    abbrev letter : Exponents
    letter = lead_letter L (length L.leads + 0)

    pub letter_new : letter ≢ u
    letter_new e =
        let a = variable_length (length L.degrees + (length L.leads + 0)) in
        let b = places_count L in
        let c = least.word.within in
        let d : length letter ≡ length u = ap length e in absurd (omega arith)

    least_degree : (word_order_of L).degree u ≡ w.degree
    least_degree = sym (degree_image L H u) ∙ (ap (word_order_of L).degree least.image ∙ (degree_x L H m n.monomial ∙ n.degree))

    pub least_small : IsSmallWord (word_order_of L) u
    least_small = record { word = least.word; small = let e = least_degree in let l = s.listing.small in omega arith }

    pub least_some : u ≢ []
    least_some e =
        let z = weighted_nil (L.degrees ++ lead_degrees L) in
        let q : weighted_degree (L.degrees ++ lead_degrees L) u ≡ weighted_degree (L.degrees ++ lead_degrees L) [] = ap (weighted_degree (L.degrees ++ lead_degrees L)) e in
        let d : weighted_degree (L.degrees ++ lead_degrees L) u ≡ w.degree = least_degree in
        let p = new_lead.positive in let r = n.degree in absurd (omega arith)

    -- the word of no rule is that of the lead
    pub word_new : (r : Rule) → Contains w.rules.items r → r.word ≢ u
    word_new r h e =
        ⊎_elim (λ z. n.standard (subst (IsMultiple w.zeros.items) least.image z)) (λ x. least.least x.0 x.1)
        (subst (IsReducible (IsMultiple w.zeros.items) L) e (s.listing.rules.minimal r h).reducible)

    -- no rule of a lower degree goes to the word
    pub lower_other : (r : RewriteRule) → Contains w.table r → (word_order_of L).degree r.left < w.degree → r.right ≢ Some u
    lower_other r h d e =
        let k : IsRightSide (IsMultiple w.zeros.items) L r.left (Some u) = subst (IsRightSide (IsMultiple w.zeros.items) L r.left) e (exact.rules r h).1 in
        let q = degree_same L H u r.left k.image in
        let b = least_degree in
        absurd (omega arith)

    pub lower_in_table : (k : ℕ) → k < w.lower_rules → (rule_at w.table k).right ≢ Some u
    lower_in_table k l = let a = s.lower.within in lower_other (rule_at w.table k) (contains_at w.table k no_rule (omega arith)) (s.lower.less k l)

    pub lower_in_list : (n : ℕ) → n ≤ length w.rules.items → ((k : ℕ) → k < n → (word_order_of L).degree (rule_at (rewrite_rules w.rules.items) k).left < w.degree) →
        (k : ℕ) → k < n → (rule_at (rewrite_rules w.rules.items) k).right ≢ Some u
    lower_in_list n a h k l = lower_other (rule_at (rewrite_rules w.rules.items) k) (listed_there w s k (omega arith)) (h k l)

    module _ (T : List RewriteRule) (x : IsLettered u letter w.table T) where
      abbrev plus : List RewriteRule
      plus = w.table ++ lead_rule u letter ∷ []

      with_letter : IsWithLetter u letter w.table T
      with_letter = record {
        each = λ t h.
            let r = renamed_from u letter plus T x t h in
            ⊎_elim (λ a. inl (r.0, a, r.2.left, ⊎_elim (λ k. inl (k.1, k.0)) (λ k. inr k) r.2.right))
            (λ b.
            let e = ⊎_elim (λ e. e) (λ z. absurd (contains_none r.0 z)) (contains_cases (lead_rule u letter) [] r.0 b) in
            let q = lead_renamed u letter t (subst (λ y. IsRenamedRule u letter y t) (sym e) r.2) in
            inr (ap (λ (y : RewriteRule). y.left) q, ap (λ (y : RewriteRule). y.right) q))
            (contains_either w.table (lead_rule u letter ∷ []) r.0 r.1);
        all = λ r h. let y = renamed_of u letter plus T x r (contains_left w.table (lead_rule u letter ∷ []) r h) in (y.0, y.1, y.2.left);
        new = let y = renamed_of u letter plus T x (lead_rule u letter) (contains_right w.table (lead_rule u letter ∷ []) (lead_rule u letter) (contains_here (lead_rule u letter) [])) in (y.0, y.1, y.2.left);
      }

      pub pushed_exact : AreExactRules M w.zeros.items w.degree T
      pushed_exact = lead_exact L H w.zeros.items w.degree m last w.table exact u least n.standard T least_degree with_letter

      -- the left side at an old index
      old_left : (i : ℕ) → i < length w.table → (rule_at T i).left ≡ (rule_at w.table i).left
      old_left i l =
          (x.each i (let a = length-append w.table (lead_rule u letter ∷ []) in omega arith)).left ∙
          ap (λ (y : RewriteRule). y.left) (get_or-append w.table (lead_rule u letter ∷ []) no_rule i l)

      old_zero : (i : ℕ) → i < length w.table → (rule_at w.table i).right ≡ None → (rule_at T i).right ≡ None
      old_zero i l e =
          let q : (rule_at plus i).right ≡ None = ap (λ (y : RewriteRule). y.right) (get_or-append w.table (lead_rule u letter ∷ []) no_rule i l) ∙ e in
          ⊎_elim (λ a. a.1 ∙ q) (λ b. absurd (some_none (sym b.0 ∙ q))) (x.each i (let a = length-append w.table (lead_rule u letter ∷ []) in omega arith)).right
        where
          some_none : {v : Exponents} → Some v ≡ None → ⊥
          some_none z = cc

      old_pair : (i j : ℕ) → i < length w.table → j < length w.table → pair_degree (word_order_of M) T i j ≡ pair_degree (word_order_of L) w.table i j
      old_pair i j a b =
          ap (λ v. (word_order_of M).degree (lcm v (rule_at T j).left)) (old_left i a) ∙
          (ap (λ v. (word_order_of M).degree (lcm (rule_at w.table i).left v)) (old_left j b) ∙
          degree_stays L H w.zeros.items w.degree m last w.table exact u least n.standard (lcm (rule_at w.table i).left (rule_at w.table j).left)
          (IsMonomial-least_common_multiple (word_order_of L).places (rule_at w.table i).left (rule_at w.table j).left
          (exact.rules (rule_at w.table i) (contains_at w.table i no_rule a)).0 (exact.rules (rule_at w.table j) (contains_at w.table j no_rule b)).0))

      pub pushed_queued : IsQueued (word_order_of M) w.degree w.queued_count T w.pairs
      pushed_queued = record {
        within = let a = x.number in let b = length-append w.table (lead_rule u letter ∷ []) in let c = s.queued.within in omega arith;
        each = λ d p l h.
            let y = s.queued.each d p l h in
            let a = y.rising in let b = y.below in let c = s.queued.within in
            record { rising = a; below = b; degree = old_pair p.first p.second (omega arith) (omega arith) ∙ y.degree };
        all = λ i j l b f g.
            let c = s.queued.within in
            let li : i < length w.table = omega arith in
            let lj : j < length w.table = omega arith in
            let e = old_pair i j li lj in
            ⊎_elim
            (λ k. inl (⊎_elim (λ z. inl (subst (λ v. AreCoprime v (rule_at T j).left) (sym (old_left i li)) (subst (AreCoprime (rule_at w.table i).left) (sym (old_left j lj)) z)))
            (λ z. inr (old_zero i li z.0, old_zero j lj z.1)) k))
            (λ k. inr (subst (λ d. Contains (list_of w.pairs d) (record { first = i; second = j })) (sym e) k))
            (s.queued.all i j l b (omega arith) (omega arith));
      }

      pub pushed_lower : AreLower (word_order_of M) w.degree w.lower_rules T
      pushed_lower = record {
        within = let a = x.number in let b = length-append w.table (lead_rule u letter ∷ []) in let c = s.lower.within in omega arith;
        less = λ k l.
            let c = s.lower.within in
            let b : k < length w.table = omega arith in
            let e = ap (word_order_of M).degree (old_left k b) in
            let d = degree_stays L H w.zeros.items w.degree m last w.table exact u least n.standard (rule_at w.table k).left (exact.rules (rule_at w.table k) (contains_at w.table k no_rule b)).0 in
            let f = s.lower.less k l in
            omega arith;
      }

      module _ (D : List Rule) (y : AreRenamed u letter (rewrite_rules w.rules.items) (rewrite_rules D)) (i : ℕ) (place : IsInsertionIndex (word_order_of L) (words_of w.rules.items) u i)
          (t : Rule) (et : rewrite_rule t ≡ lead_rule u letter) where
        abbrev E : List Rule
        E = take i D ++ t ∷ drop i D

        kept : (r : Rule) → Contains D r → Contains E r
        kept r c = ⊎_elim (λ a. contains_left (take i D) (t ∷ drop i D) r a) (λ b. contains_right (take i D) (t ∷ drop i D) r (contains_there t (drop i D) r b)) (contains_parts D i r c)

        here : Contains E t
        here = contains_right (take i D) (t ∷ drop i D) t (contains_here t (drop i D))

        old_or_new : (r : Rule) → Contains E r → (t ≡ r) ⊎ Contains D r
        old_or_new r c = ⊎_elim (λ a. inr (contains_take D i r a)) (λ b. ⊎_elim (λ e. inl e) (λ d. inr (contains_drop D i r d)) (contains_cases t (drop i D) r b)) (contains_either (take i D) (t ∷ drop i D) r c)

        -- a renamed rule of the list is one of the old table
        from_table : (r : Rule) → Contains D r → (q : RewriteRule) × Contains w.table q × IsRenamedRule u letter q (rewrite_rule r)
        from_table r c =
            let q = renamed_from u letter (rewrite_rules w.rules.items) (rewrite_rules D) y (rewrite_rule r) (contains_map rewrite_rule D r c) in
            let o = map_contains rewrite_rule w.rules.items q.0 q.1 in
            (q.0, subst (Contains w.table) o.2 (s.same.there o.0 o.1), q.2)

        pub pushed_same : AreSameRules E T
        pushed_same = record {
          there = λ r c. ⊎_elim
              (λ e.
              let z = renamed_of u letter plus T x (lead_rule u letter) (contains_right w.table (lead_rule u letter ∷ []) (lead_rule u letter) (contains_here (lead_rule u letter) [])) in
              subst (Contains T) (lead_renamed u letter z.0 z.2 ∙ (sym et ∙ ap rewrite_rule e)) z.1)
              (λ c.
              let q = from_table r c in
              let z = renamed_of u letter plus T x q.0 (contains_left w.table (lead_rule u letter ∷ []) q.0 q.1) in
              subst (Contains T) (renamed_unique u letter q.0 z.0 (rewrite_rule r) z.2 q.2) z.1) (old_or_new r c);
          back = λ v c.
              let q = renamed_from u letter plus T x v c in
              ⊎_elim
              (λ a.
              let z = renamed_of u letter (rewrite_rules w.rules.items) (rewrite_rules D) y q.0 (s.same.back q.0 a) in
              let o = map_contains rewrite_rule D z.0 z.1 in
              subst (Contains (rewrite_rules E)) (o.2 ∙ renamed_unique u letter q.0 z.0 v z.2 q.2) (contains_map rewrite_rule E o.0 (kept o.0 o.1)))
              (λ b.
              let e = ⊎_elim (λ e. e) (λ z. absurd (contains_none q.0 z)) (contains_cases (lead_rule u letter) [] q.0 b) in
              subst (Contains (rewrite_rules E)) (et ∙ sym (lead_renamed u letter v (subst (λ o. IsRenamedRule u letter o v) (sym e) q.2))) (contains_map rewrite_rule E t here))
              (contains_either w.table (lead_rule u letter ∷ []) q.0 q.1);
        }

        long : length D ≡ length w.rules.items
        long = let a = rewrite_length D in let b = rewrite_length w.rules.items in let c = y.number in omega arith

        same_words : words_of D ≡ words_of w.rules.items
        same_words =
            ext_get_or [] (words_of D) (words_of w.rules.items) (let a = words_length D in let b = words_length w.rules.items in let c = long in omega arith)
            (λ k l.
            let a : k < length D = (let b = words_length D in omega arith) in
            let b : k < length w.rules.items = (let c = long in omega arith) in
            word_at D k t a ∙ (sym (ap (λ (r : RewriteRule). r.left) (listed_rule D k t a)) ∙
            ((y.each k (let c = rewrite_length w.rules.items in omega arith)).left ∙
            (ap (λ (r : RewriteRule). r.left) (listed_rule w.rules.items k t b) ∙ sym (word_at w.rules.items k t b)))))

        tw : t.word ≡ u
        tw = ap (λ (r : RewriteRule). r.left) et

        inserted : IsInsertedRule (word_order_of L) D E t
        inserted =
            inserted_new (word_order_of L) (word_laws L H) D t i (subst (IsIncreasing (word_order_of L)) (sym same_words) s.listing.rules.increasing)
            (subst (λ xs. IsInsertionIndex (word_order_of L) xs t.word i) (sym same_words) (subst (λ v. IsInsertionIndex (word_order_of L) (words_of w.rules.items) v i) (sym tw) place))
            (λ l e.
            let b : i < length w.rules.items = (let a = words_length D in let c = long in omega arith) in
            word_new (get_or w.rules.items i t) (contains_at w.rules.items i t b) (sym (word_at w.rules.items i t b) ∙ (ap (λ xs. get_or xs i []) (sym same_words) ∙ (e ∙ tw))))

        word_old : (v : Exponents) → Contains (words_of E) v → IsWord L v
        word_old v c =
            let o = map_contains (λ (r : Rule). r.word) E v c in
            subst (IsWord L) o.2
            (⊎_elim (λ e. subst (IsWord L) (sym tw ∙ ap (λ (r : Rule). r.word) e) least.word)
            (λ d. let q = from_table o.0 d in subst (IsWord L) (sym q.2.left) (exact.rules q.0 q.1).0) (old_or_new o.0 o.1))

        pub pushed_rules : AreRules M w.zeros.items w.degree E
        pushed_rules =
            exact_rules M HM w.zeros.items w.degree T E pushed_exact pushed_same
            (increasing_alike (word_order_of L) (word_order_of M) (words_of E) (λ v z a b. compare_stays L (m ∷ []) v z (word_old v a) (word_old z b)) inserted.increasing)

        pub pushed_listing : IsListing (record { letters = M; zeros = w.zeros.items; degree = w.degree; rules = E; closed = false })
        pushed_listing = record {
          letters = HM;
          leads = pushed_leads;
          distinct = pushed_distinct;
          zeros = s.listing.zeros;
          small = s.listing.small;
          rules = pushed_rules;
          closed = λ e. absurd cc;
        }

-- an alphabet with one lead more
pub alphabet_pushed : (a : Alphabet) → IsAlphabet a → (m : Exponents) → IsLetterLead a.order.x_degrees.items m → (d : ℕ) → d ≡ weighted_degree (a.order.x_degrees.items ++ a.order.s_degrees.items) m →
    (xs ss : List ℕ) (ms : List Exponents) → xs ≡ a.order.x_degrees.items → ss ≡ a.order.s_degrees.items ++ d ∷ [] → ms ≡ a.leads.items ++ m ∷ [] → AreLetterLeads xs ms × (ss ≡ map (weighted_degree xs) ms)
alphabet_pushed a h m k d ed xs ss ms ex es em = (
  λ x c. subst (λ ys. IsLetterLead ys x) (sym ex)
      (⊎_elim (λ b. h.are_leads x b) (λ b. subst (IsLetterLead a.order.x_degrees.items) (contains_one m x b) k) (contains_either a.leads.items (m ∷ []) x (subst (λ ys. Contains ys x) em c))),
  es ∙ (ap (λ ys. ys ++ d ∷ []) h.lead_degrees ∙
      (ap (λ e. map (weighted_degree a.order.x_degrees.items) a.leads.items ++ e ∷ []) (ed ∙ x_degree a h m k.monomial) ∙
      (sym (map-append (weighted_degree a.order.x_degrees.items) a.leads.items (m ∷ [])) ∙
      (ap (λ ys. map (weighted_degree ys) (a.leads.items ++ m ∷ [])) (sym ex) ∙ ap (map (weighted_degree xs)) (sym em))))),
)
