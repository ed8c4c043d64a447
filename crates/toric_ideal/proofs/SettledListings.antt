-- A completion whose last leads are numbered again.
use Rattle.std.proofs.Common.{◌≡◌, ◌≢◌, ℕ, ◌+◌, ◌<◌, ◌≤◌, refl, sym, ◌∙◌, ap, subst, List, [], ◌∷◌, ◌++◌, length, length-append, take, drop, map, get_or, arith, inl, inr, ⊎_elim, Some, None}
use Rattle.std.specs.Prelude.{Contains, AllPairs}
use Rattle.std.proofs.lemmas.List.{ext_get_or, length-take-le, map-append, take-append-drop}
use Rattle.std.proofs.lemmas.List.Elements.{Contains-append_cases}
use Rattle.std.proofs.Math.Seq.{drop-append_seam, take-append_seam}
use Rattle.monomial_order.specs.Monomial.{Exponents, AreCoprime, Divides, IsMonomial, IsMultiple, least_common_multiple as lcm, weighted_degree}
use Rattle.monomial_order.specs.MonomialOrder.{IsIncreasing, IsMonomialOrder, MonomialOrder}
use Rattle.monomial_order.specs.laws.Lists.{contains_at, contains_here, contains_map, contains_there, map_contains}
use Rattle.word_laws.specs.Words.{Letters, AreLetters, IsReducible, IsWord, variables, word_order_of}
use Rattle.word_laws.specs.laws.Images.{degree_weighted}
use Rattle.word_laws.specs.laws.Words.{degree_image, degree_same, degree_x}
use Rattle.word_rewriting.specs.Rewriting.{WordOrZero, RewriteRule}
use Rattle.word_rewriting.specs.Completeness.{lead_letter, with_leads, IsRightSide}
use Rattle.word_rewriting.specs.Renumbering.{AreRenumbered, AreRenumberedRules, IsRenumberedRule, IsRenumberedSide}
use Rattle.word_rules.specs.Rules.{no_rule, rule_at}
use Rattle.monomial_order.specs.Orders.{word_order}
use Rattle.toric_ideal.specs.declared.completion.Completion.{Completion}
use Rattle.toric_ideal.specs.declared.index_pair.IndexPair.{IndexPair}
use Rattle.toric_ideal.specs.declared.rule.Rule.{Rule}
use Rattle.toric_ideal.specs.Alphabet.{letters_of, IsAlphabet}
use Rattle.toric_ideal.specs.Increasing.{AreComparable, IsSorted}
use Rattle.toric_ideal.specs.Leads.{letters, AreLetterLeads}
use Rattle.toric_ideal.specs.Listing.{AreParted, AreRules, IsListing, IsSettled, OrdersByDegrees}
use Rattle.toric_ideal.specs.Queue.{pair, IsNeedless, IsQueued}
use Rattle.toric_ideal.specs.Step.{pair_degree}
use Rattle.degree_queue.specs.DegreeQueue.{list_of}
use Rattle.toric_ideal.specs.Rewriting.{rewrite_rule, rewrite_rules, AreExactRules, AreSameRules}
use Rattle.toric_ideal.specs.Settling.{last_leads, lower_letters, CanRenumber, HaveNewSides, IsLowerOrLetterSide, IsNewSide}
use Rattle.toric_ideal.specs.SortedRules.{words_of}
use Rattle.toric_ideal.specs.State.{AreLower, IsSound}
use Rattle.toric_ideal.proofs.Cleaning.{rule_index}
use Rattle.toric_ideal.proofs.ExactRules.{exact_rules}
use Rattle.toric_ideal.proofs.LetterLemmas.{leads_letters}
use Rattle.toric_ideal.proofs.Members.{contains_drop, contains_take}
use Rattle.toric_ideal.proofs.Pairs.{increasing_distinct, pairs_append, pairs_drop, pairs_from, pairs_take, pairs_to}
use Rattle.toric_ideal.proofs.Relettering.{closed_again}
use Rattle.toric_ideal.proofs.Renamings.{listed_rule, rewrite_length}
use Rattle.toric_ideal.proofs.RuleLists.{word_at, words_length}
use Rattle.toric_ideal.proofs.Settled.{left_lower, right_lower, settled_exact, side_unique}
use Rattle.toric_ideal.proofs.SoundListings.{listed_there, sound_exact}
use Rattle.word_rewriting.specs.laws.MoreLeads.{new_image}
use Rattle.word_rewriting.specs.laws.Renumbering.{last_letters}

-- the order that gives each x its degree gives each monomial its degree
fits_degree : (O : MonomialOrder) (xs : List ℕ) → IsMonomialOrder O → OrdersByDegrees O xs → (m : Exponents) → IsMonomial (length xs) m → O.degree m ≡ weighted_degree xs m
fits_degree O xs W f m h =
    sym (degree_weighted O W m (subst (λ n. IsMonomial n m) (sym f.places) h)) ∙
    ap (λ ds. weighted_degree ds m) (ap (λ n. map O.degree (variables 0 n)) f.places ∙ f.gives)

pub leads_comparable : (O : MonomialOrder) (xs : List ℕ) (leads : List Exponents) (k : ℕ) → IsMonomialOrder O → OrdersByDegrees O xs → AreLetterLeads xs leads → AreComparable O (drop k leads)
leads_comparable O xs leads k W f h m c =
    let l = h m (contains_drop leads k m c) in
    let s = l.small in
    let e = fits_degree O xs W f m l.monomial in
    record { monomial = subst (λ n. IsMonomial n m) (sym f.places) l.monomial; small = omega arith }

same_values : (f : Exponents → ℕ) (d : ℕ) (ms ns : List Exponents) → length ms ≡ length ns → ((m : Exponents) → Contains ms m → f m ≡ d) → ((m : Exponents) → Contains ns m → f m ≡ d) → map f ms ≡ map f ns
same_values f d [] [] e h k = refl
same_values f d [] (n ∷ ns) e h k = absurd (omega arith)
same_values f d (m ∷ ms) [] e h k = absurd (omega arith)
same_values f d (m ∷ ms) (n ∷ ns) e h k =
    ap (λ y. y ∷ map f ms) (h m (contains_here m ms) ∙ sym (k n (contains_here n ns))) ∙
    ap (λ ys. f n ∷ ys) (same_values f d ms ns (omega arith) (λ x c. h x (contains_there m ms x c)) (λ x c. k x (contains_there n ns x c)))

take_taken : {A : Type 0} (k : ℕ) (xs ys : List A) → k ≤ length xs → take k (take k xs ++ ys) ≡ take k xs
take_taken k xs ys l = subst (λ n. take n (take k xs ++ ys) ≡ take k xs) (length-take-le k xs l) (take-append_seam (take k xs) ys)

drop_taken : {A : Type 0} (k : ℕ) (xs ys : List A) → k ≤ length xs → drop k (take k xs ++ ys) ≡ ys
drop_taken k xs ys l = subst (λ n. drop n (take k xs ++ ys) ≡ ys) (length-take-le k xs l) (drop-append_seam (take k xs) ys)

module _ (O : MonomialOrder) (W : IsMonomialOrder O) (w : Completion) (s : IsSound w) (after : List Exponents) (p : IsSorted O (drop w.settled_count w.alphabet.leads.items) after) where
  abbrev k : ℕ
  k = w.settled_count

  abbrev xs : List ℕ
  xs = w.alphabet.order.x_degrees.items

  abbrev leads : List Exponents
  leads = w.alphabet.leads.items

  abbrev L : Letters
  L = lower_letters w.alphabet k

  abbrev before : List Exponents
  before = last_leads w.alphabet k

  abbrev Z : List Exponents
  Z = w.zeros.items

  whole : with_leads L before ≡ letters_of w.alphabet
  whole = ap (letters xs) (take-append-drop k leads)

  HL : AreLetters L
  HL = record {
    positive = s.listing.letters.positive;
    leads = λ m c. s.listing.letters.leads m (contains_take leads k m c);
    not_one = λ m c. s.listing.letters.not_one m (contains_take leads k m c);
  }

  distinct_before : AllPairs (λ m n. m ≢ n) before
  distinct_before = pairs_to (λ m n. m ≢ n) before (pairs_drop (λ m n. m ≢ n) k leads (pairs_from (λ m n. m ≢ n) leads s.listing.distinct))

  old_lead : (m : Exponents) → Contains after m → Contains leads m
  old_lead m c = contains_drop leads k m ((p.members m).1 c)

  last_after : (m : Exponents) → Contains after m → weighted_degree xs m ≡ w.degree
  last_after m c = s.parted.last_equal m ((p.members m).1 c)

  K : AreRenumbered L w.degree before after
  K = record {
    old_leads = record {
      in_x = λ m c. s.listing.letters.leads m (contains_drop leads k m c);
      not_one = λ m c. s.listing.letters.not_one m (contains_drop leads k m c);
      degree = s.parted.last_equal;
      distinct = distinct_before;
    };
    new_leads = record {
      in_x = λ m c. s.listing.letters.leads m (old_lead m c);
      not_one = λ m c. s.listing.letters.not_one m (old_lead m c);
      degree = last_after;
      distinct = pairs_to (λ m n. m ≢ n) after (increasing_distinct O W after p.increasing);
    };
    members = p.members;
  }

  number : length after ≡ length before
  number = p.number distinct_before

  pub can_renumber : CanRenumber w.alphabet k after
  can_renumber = record { within = s.within; number = number; members = λ m c. (p.members m).0 c }

  exact : AreExactRules (with_leads L before) Z w.degree w.table
  exact = subst (λ M. AreExactRules M Z w.degree w.table) (sym whole) (sound_exact w s)

  pub table_sides : (i : ℕ) → i < length w.table → IsLowerOrLetterSide L before (rule_at w.table i).right
  table_sides i l = right_lower L HL Z w.degree before after K w.table exact (rule_at w.table i) (contains_at w.table i no_rule l)

  pub rule_sides : (r : Rule) → Contains w.rules.items r → IsLowerOrLetterSide L before r.least
  rule_sides r c = right_lower L HL Z w.degree before after K w.table exact (rewrite_rule r) (s.same.there r c)

  -- the letter of a lead has its degree
  letter_degree : (j : ℕ) → j < length before → (word_order_of (with_leads L before)).degree (lead_letter L (length L.leads + j)) ≡ w.degree
  letter_degree j l =
      let M = with_leads L before in
      let HM = last_letters L HL w.degree before K.old_leads in
      let c = contains_at before j [] l in
      sym (degree_image M HM (lead_letter L (length L.leads + j))) ∙
      (ap (word_order_of M).degree (new_image L HL before (λ m c. (K.old_leads.in_x m c, K.old_leads.not_one m c)) j) ∙
      (degree_x M HM (get_or before j []) (K.old_leads.in_x (get_or before j []) c) ∙ K.old_leads.degree (get_or before j []) c))

  -- a right side of a lower degree has no letter of these leads
  lower_stays : (r : RewriteRule) → Contains w.table r → (word_order_of (letters_of w.alphabet)).degree r.left < w.degree → IsNewSide w.alphabet k after r.right r.right
  lower_stays r h d =
      side r.right (exact.rules r h).1 (right_lower L HL Z w.degree before after K w.table exact r h)
      (subst (λ N. (word_order_of N).degree r.left < w.degree) (sym whole) d)
    where
      side : (a : WordOrZero) → IsRightSide (IsMultiple Z) (with_leads L before) r.left a → IsLowerOrLetterSide L before a → (word_order_of (with_leads L before)).degree r.left < w.degree →
          IsNewSide w.alphabet k after a a
      side None x y d = tt
      side (Some v) x y d =
          ⊎_elim (λ z. inl (z, refl))
          (λ j.
          let q = degree_same (with_leads L before) (last_letters L HL w.degree before K.old_leads) v r.left x.image in
          let e = ap (word_order_of (with_leads L before)).degree j.2 in
          let f = letter_degree j.0 j.1 in
          absurd (omega arith)) y

  pub lower_in_table : (i : ℕ) → i < w.lower_rules → IsNewSide w.alphabet k after (rule_at w.table i).right (rule_at w.table i).right
  lower_in_table i l = let a = s.lower.within in lower_stays (rule_at w.table i) (contains_at w.table i no_rule (omega arith)) (s.lower.less i l)

  pub lower_in_list : (n : ℕ) → n ≤ length w.rules.items → ((i : ℕ) → i < n → (word_order_of (letters_of w.alphabet)).degree (rule_at (rewrite_rules w.rules.items) i).left < w.degree) →
      (i : ℕ) → i < n → IsNewSide w.alphabet k after (rule_at (rewrite_rules w.rules.items) i).right (rule_at (rewrite_rules w.rules.items) i).right
  lower_in_list n a h i l = lower_stays (rule_at (rewrite_rules w.rules.items) i) (listed_there w s i (omega arith)) (h i l)

  pub settled_is : (new : List Exponents) → new ≡ take k leads ++ after → IsSettled O xs w.degree leads new
  settled_is new e = record {
    lower = take k leads;
    before = before;
    after = after;
    old_parts = s.parted;
    new_parts = record { whole = e; lower_less = s.parted.lower_less; last_equal = last_after };
    members = p.members;
    number = number;
    increasing = p.increasing;
  }

  -- the same degrees, so the same order of words
  degrees_same : map (weighted_degree xs) (take k leads ++ after) ≡ map (weighted_degree xs) leads
  degrees_same =
      map-append (weighted_degree xs) (take k leads) after ∙
      (ap (λ ys. map (weighted_degree xs) (take k leads) ++ ys) (same_values (weighted_degree xs) w.degree after before number last_after s.parted.last_equal) ∙
      (sym (map-append (weighted_degree xs) (take k leads) before) ∙ ap (map (weighted_degree xs)) (take-append-drop k leads)))

  order_same : word_order_of (with_leads L after) ≡ word_order_of (letters_of w.alphabet)
  order_same = ap (word_order xs) degrees_same

  pub new_leads : AreLetterLeads xs (take k leads ++ after)
  new_leads m c = ⊎_elim (λ a. s.listing.leads m (contains_take leads k m a)) (λ b. s.listing.leads m (old_lead m b)) (Contains-append_cases (take k leads) after m c)

  new_distinct : AllPairs (λ m n. m ≢ n) (take k leads ++ after)
  new_distinct =
      pairs_to (λ m n. m ≢ n) (take k leads ++ after)
      (pairs_append (λ m n. m ≢ n) (take k leads) after
      (pairs_take (λ m n. m ≢ n) k leads (pairs_from (λ m n. m ≢ n) leads s.listing.distinct)) (increasing_distinct O W after p.increasing)
      (λ x y c d e.
      let a = s.parted.lower_less x c in
      let b = last_after y d in
      let q : weighted_degree xs x ≡ weighted_degree xs y = ap (weighted_degree xs) e in
      omega arith))

  module _ (T : List RewriteRule) (new : List Rule) (ht : HaveNewSides w.alphabet k after w.table T) (hr : HaveNewSides w.alphabet k after (rewrite_rules w.rules.items) (rewrite_rules new)) where
    number_kept : length new ≡ length w.rules.items
    number_kept = let a = hr.number in let b = rewrite_length new in let c = rewrite_length w.rules.items in omega arith

    word_kept : (i : ℕ) (c d : Rule) → i < length w.rules.items → (get_or new i c).word ≡ (get_or w.rules.items i d).word
    word_kept i c d l =
        let a = number_kept in
        let b = rewrite_length w.rules.items in
        ap (λ (t : RewriteRule). t.left) (sym (listed_rule new i c (omega arith))) ∙ (hr.left i (omega arith) ∙ ap (λ (t : RewriteRule). t.left) (listed_rule w.rules.items i d l))

    least_kept : (i : ℕ) (c d : Rule) → i < length w.rules.items → IsNewSide w.alphabet k after (get_or w.rules.items i d).least (get_or new i c).least
    least_kept i c d l =
        let a = number_kept in
        let b = rewrite_length w.rules.items in
        subst (λ (t : RewriteRule). IsNewSide w.alphabet k after t.right (get_or new i c).least) (listed_rule w.rules.items i d l)
        (subst (λ (t : RewriteRule). IsNewSide w.alphabet k after (rule_at (rewrite_rules w.rules.items) i).right t.right) (listed_rule new i c (omega arith)) (hr.right i (omega arith)))

    renumbered_at : (i : ℕ) → i < length w.table → IsRenumberedRule L before after (rule_at w.table i) (rule_at T i)
    renumbered_at i l = (
      inl (left_lower L HL Z w.degree before after K s.standard w.table exact (rule_at w.table i) (contains_at w.table i no_rule l), sym (ht.left i l)),
      ht.right i l,
    )

    renumbered : AreRenumberedRules L before after w.table T
    renumbered = record {
      each = λ t h.
          let i = rule_index T t h in
          let b = i.1 in
          let n = ht.number in
          let l : i.0 < length w.table = omega arith in
          (rule_at w.table i.0, contains_at w.table i.0 no_rule l, subst (IsRenumberedRule L before after (rule_at w.table i.0)) i.2 (renumbered_at i.0 l));
      all = λ r h.
          let i = rule_index w.table r h in
          let b = i.1 in
          let n = ht.number in
          (rule_at T i.0, contains_at T i.0 no_rule (omega arith), subst (λ (x : RewriteRule). IsRenumberedRule L before after x (rule_at T i.0)) i.2 (renumbered_at i.0 b));
    }

    new_exact : AreExactRules (with_leads L after) Z w.degree T
    new_exact = settled_exact L HL Z w.degree before after K w.table T exact renumbered

    -- a rule of the one list at an index, and the same rule of the other
    new_same : (i j : ℕ) (c d : Rule) → i < length w.rules.items → j < length w.table → rewrite_rule (get_or w.rules.items i d) ≡ rule_at w.table j → rewrite_rule (get_or new i c) ≡ rule_at T j
    new_same i j c d li lj e =
        let el : (get_or new i c).word ≡ (rule_at T j).left = word_kept i c d li ∙ (ap (λ (t : RewriteRule). t.left) e ∙ sym (ht.left j lj)) in
        let er : (get_or new i c).least ≡ (rule_at T j).right =
        side_unique L HL Z w.degree before after K (get_or w.rules.items i d).least (get_or new i c).least (rule_at T j).right (least_kept i c d li)
        (subst (λ (t : RewriteRule). IsRenumberedSide L before after t.right (rule_at T j).right) (sym e) (renumbered_at j lj).1) in
        ap (λ u. record { left = u; right = (get_or new i c).least }) el ∙ ap (λ b. record { left = (rule_at T j).left; right = b }) er

    pub same_rules : AreSameRules new T
    same_rules = record {
      there = λ r h.
          let b = h.1 in
          let n = number_kept in
          let li : h.0 < length w.rules.items = omega arith in
          let old = get_or w.rules.items h.0 r in
          let j = rule_index w.table (rewrite_rule old) (s.same.there old (contains_at w.rules.items h.0 r li)) in
          let lj = j.1 in
          let m = ht.number in
          subst (Contains T) (sym (new_same h.0 j.0 r r li lj (sym j.2)) ∙ ap rewrite_rule (h.2)) (contains_at T j.0 no_rule (omega arith));
      back = λ t h.
          let j = rule_index T t h in
          let b = j.1 in
          let m = ht.number in
          let lj : j.0 < length w.table = omega arith in
          let x = map_contains rewrite_rule w.rules.items (rule_at w.table j.0) (s.same.back (rule_at w.table j.0) (contains_at w.table j.0 no_rule lj)) in
          let i = x.1 in
          let li = i.1 in
          let n = number_kept in
          subst (Contains (rewrite_rules new)) (new_same i.0 j.0 x.0 x.0 li lj (ap rewrite_rule i.2 ∙ x.2) ∙ j.2)
          (contains_map rewrite_rule new (get_or new i.0 x.0) (contains_at new i.0 x.0 (omega arith)));
    }

    words_same : words_of new ≡ words_of w.rules.items
    words_same =
        let n = number_kept in
        let a = words_length new in
        let b = words_length w.rules.items in
        ext_get_or [] (words_of new) (words_of w.rules.items) (a ∙ (n ∙ sym b))
        (λ i l.
        let d : Rule = record { word = []; least = None } in
        word_at new i d (omega arith) ∙ (word_kept i d d (omega arith) ∙ sym (word_at w.rules.items i d (omega arith))))

    new_rules : AreRules (with_leads L after) Z w.degree new
    new_rules =
        exact_rules (with_leads L after) (last_letters L HL w.degree after K.new_leads) Z w.degree T new new_exact same_rules
        (subst (λ P. IsIncreasing P (words_of new)) (sym order_same) (subst (IsIncreasing (word_order_of (letters_of w.alphabet))) (sym words_same) s.listing.rules.increasing))

    pub listing_settled : (ls : List Exponents) → ls ≡ take k leads ++ after → IsListing (record { letters = letters xs ls; zeros = Z; degree = w.degree; rules = new; closed = w.closed })
    listing_settled ls e = subst (λ ms. IsListing (record { letters = letters xs ms; zeros = Z; degree = w.degree; rules = new; closed = w.closed })) (sym e) (record {
      letters = leads_letters xs (take k leads ++ after) w.alphabet.order.x_in_range new_leads;
      leads = new_leads;
      distinct = new_distinct;
      zeros = s.listing.zeros;
      small = s.listing.small;
      rules = new_rules;
      closed = λ t v hv red.
          let x = closed_again L HL w.degree before after K Z w.table T
          (λ r h. (
            left_lower L HL Z w.degree before after K s.standard w.table exact r h,
            (let i = rule_index w.table r h in let b = i.1 in let n = ht.number in (rule_at T i.0, contains_at T i.0 no_rule (omega arith), ht.left i.0 b ∙ ap (λ (y : RewriteRule). y.left) i.2)),
          ))
          new_exact.rules
          (λ u hu r. let y = s.listing.closed t u (subst (λ M. IsWord M u) whole hu) (subst (λ M. IsReducible (IsMultiple Z) M u) whole r) in (rewrite_rule y.0, s.same.there y.0 y.1, y.2)) v hv red in
          let y = map_contains rewrite_rule new x.0 (same_rules.back x.0 x.1) in
          (y.0, y.1, subst (λ (r : RewriteRule). Divides r.left v) (sym y.2) x.2);
    })

  -- the same left sides have pairs of the same degrees, and the same of these are needless
  module _ (P : MonomialOrder) (c n : ℕ) (T : List RewriteRule) (ht : HaveNewSides w.alphabet k after w.table T) where
    degree_kept : (i j : ℕ) → i < length w.table → j < length w.table → pair_degree P T i j ≡ pair_degree P w.table i j
    degree_kept i j li lj = ap (λ u. P.degree (lcm u (rule_at T j).left)) (ht.left i li) ∙ ap (λ u. P.degree (lcm (rule_at w.table i).left u)) (ht.left j lj)

    none_kept : (i : ℕ) → i < length w.table → (rule_at w.table i).right ≡ None → (rule_at T i).right ≡ None
    none_kept i l e = none (rule_at T i).right (subst (λ a. IsRenumberedSide L before after a (rule_at T i).right) e (ht.right i l))
      where
        none : (b : WordOrZero) → IsRenumberedSide L before after None b → b ≡ None
        none None h = refl
        none (Some v) h = absurd h

    needless_kept : (i j : ℕ) → i < length w.table → j < length w.table → IsNeedless w.table i j → IsNeedless T i j
    needless_kept i j li lj h =
        ⊎_elim
        (λ a. inl (subst (λ u. AreCoprime u (rule_at T j).left) (sym (ht.left i li)) (subst (λ u. AreCoprime (rule_at w.table i).left u) (sym (ht.left j lj)) a)))
        (λ b. inr (none_kept i li b.0, none_kept j lj b.1)) h

    queued_kept : (queue : List (List IndexPair)) → IsQueued P c n w.table queue → IsQueued P c n T queue
    queued_kept queue q = record {
      within = let a = q.within in let b = ht.number in omega arith;
      each = λ d x l h.
          let y = q.each d x l h in
          let a = q.within in
          let r = y.rising in
          let b = y.below in
          record { rising = y.rising; below = y.below; degree = degree_kept x.first x.second (omega arith) (omega arith) ∙ y.degree };
      all = λ i j l m above small.
          let a = q.within in
          let li : i < length w.table = omega arith in
          let lj : j < length w.table = omega arith in
          let e = degree_kept i j li lj in
          ⊎_elim (λ x. inl (needless_kept i j li lj x)) (λ x. inr (subst (λ d. Contains (list_of queue d) (pair i j)) (sym e) x))
          (q.all i j l m (omega arith) (omega arith));
    }

  module _ (new : List Exponents) (e : new ≡ take k leads ++ after) where
    pub settled_alphabet : IsAlphabet w.alphabet → (w.alphabet.order.s_degrees.items ≡ map (weighted_degree xs) new) × AreLetterLeads xs new
    settled_alphabet h = (h.lead_degrees ∙ (sym degrees_same ∙ ap (map (weighted_degree xs)) (sym e)), subst (AreLetterLeads xs) (sym e) new_leads)

    new_length : length new ≡ length leads
    new_length =
        ap length e ∙ (length-append (take k leads) after ∙
        (let n = number in let l : length (take k leads) + length after ≡ length (take k leads) + length before = omega arith in l ∙
        (sym (length-append (take k leads) before) ∙ ap length (take-append-drop k leads))))

    pub settled_within : k ≤ length new
    settled_within = let n = new_length in let b = s.within in omega arith

    pub settled_parted : AreParted xs w.degree new (take k new) (drop k new)
    settled_parted = subst (λ ls. AreParted xs w.degree ls (take k ls) (drop k ls)) (sym e) (record {
      whole = sym (take-append-drop k (take k leads ++ after));
      lower_less = λ m c. s.parted.lower_less m (subst (λ ys. Contains ys m) (take_taken k leads after s.within) c);
      last_equal = λ m c. last_after m (subst (λ ys. Contains ys m) (drop_taken k leads after s.within) c);
    })

    pub settled_standard : (m : Exponents) → Contains (drop k new) m → ¬ IsMultiple Z m
    settled_standard m c = s.standard m ((p.members m).1 (subst (λ ys. Contains ys m) (ap (drop k) e ∙ drop_taken k leads after s.within) c))

    module _ (T : List RewriteRule) (ht : HaveNewSides w.alphabet k after w.table T) where
      pub settled_queued : IsQueued (word_order_of (letters xs new)) w.degree w.queued_count T w.pairs
      settled_queued =
          subst (λ P. IsQueued P w.degree w.queued_count T w.pairs) (sym (ap (λ ls. word_order_of (letters xs ls)) e ∙ order_same)) (queued_kept (word_order_of (letters_of w.alphabet)) w.degree w.queued_count T ht w.pairs s.queued)

      pub settled_lower : AreLower (word_order_of (letters xs new)) w.degree w.lower_rules T
      settled_lower = subst (λ P. AreLower P w.degree w.lower_rules T) (sym (ap (λ ls. word_order_of (letters xs ls)) e ∙ order_same)) (record {
        within = let a = s.lower.within in let b = ht.number in omega arith;
        less = λ i l.
            let a = s.lower.within in
            let q = ap (word_order_of (letters_of w.alphabet)).degree (ht.left i (omega arith)) in
            let b = s.lower.less i l in omega arith;
      })
