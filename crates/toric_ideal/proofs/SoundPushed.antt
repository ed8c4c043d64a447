-- A completion with one lead more is sound.
use Rattle.std.proofs.Common.{◌≡◌, ◌≢◌, ◌≤◌, ℕ, ◌+◌, ◌∙◌, ◌∷◌, ◌++◌, [], Bool, Global, List, Some, ap, arith, false, length, subst, sym, take, drop}
use Rattle.std.specs.Prelude.{Contains, Vec}
use Rattle.monomial_order.specs.Monomial.{Exponents, IsMultiple}
use Rattle.word_laws.specs.Words.{word_order_of, IsLeast, Letters}
use Rattle.word_rewriting.specs.Completeness.{lead_letter, with_leads}
use Rattle.word_rewriting.specs.Rewriting.{RewriteRule}
use Rattle.toric_ideal.specs.declared.alphabet.Alphabet.{Alphabet}
use Rattle.toric_ideal.specs.declared.completion.Completion.{Completion}
use Rattle.toric_ideal.specs.declared.leading.LeadChange.{LeadChange}
use Rattle.toric_ideal.specs.declared.renaming.Renaming.{Renaming}
use Rattle.toric_ideal.specs.declared.rule.Rule.{Rule}
use Rattle.toric_ideal.specs.Alphabet.{letters_of, IsAlphabet}
use Rattle.toric_ideal.specs.Increasing.{IsInsertionIndex}
use Rattle.toric_ideal.specs.LeadChange.{next_letter, IsLeadChange}
use Rattle.toric_ideal.specs.Listing.{AreParted, IsListing, IsNewLead}
use Rattle.toric_ideal.specs.Queue.{IsQueued}
use Rattle.toric_ideal.specs.Renaming.{lead_rule, AreRenamed, AreRenamings, AreSetBy, AreWithin, HasRenamedAround, IsLettered}
use Rattle.toric_ideal.specs.Rewriting.{rewrite_rule, rewrite_rules, AreSameRules}
use Rattle.toric_ideal.specs.SortedRules.{words_of}
use Rattle.toric_ideal.specs.State.{listing_of, AreLower, IsSound}
use Rattle.toric_ideal.proofs.PushedLead.{least_some, letter_new, pushed_listing, pushed_lower, pushed_parted, pushed_queued, pushed_same, pushed_within}
use Rattle.toric_ideal.proofs.Renamings.{renamings_pushed, renamings_within, rewrite_length, set_renamed}
use Rattle.toric_ideal.proofs.StandardLeads.{standard_pushed}

-- the parts of a change
pub change_made : (w : Completion) (m u : Exponents) → IsLeast (letters_of w.alphabet) m u → (l : Exponents) → l ≡ next_letter (letters_of w.alphabet) →
    (rule : Rule) → rule ≡ record { word = u; least = Some l } → (i : ℕ) → IsInsertionIndex (word_order_of (letters_of w.alphabet)) (words_of w.rules.items) u i →
    (in_table : Vec Renaming Global) → AreRenamings u l w.table (length w.table) in_table.items → (in_list : Vec Renaming Global) → AreRenamings u l (rewrite_rules w.rules.items) (length w.rules.items) in_list.items →
    IsLeadChange w m (record { rule = rule; index = i; in_table = in_table; in_list = in_list })
change_made w m u least l el rule er i place in_table ht in_list hl =
    let L = letters_of w.alphabet in
    let word : u ≡ rule.word = sym (ap (λ (r : Rule). r.word) er) in
    record {
      least = subst (IsLeast L m) word least;
      letter = ap (λ (r : Rule). r.least) er ∙ ap Some el;
      place = subst (λ v. IsInsertionIndex (word_order_of L) (words_of w.rules.items) v i) word place;
      in_table = subst (λ v. AreRenamings v (next_letter L) w.table (length w.table) in_table.items) word (subst (λ k. AreRenamings u k w.table (length w.table) in_table.items) el ht);
      in_list = subst (λ v. AreRenamings v (next_letter L) (rewrite_rules w.rules.items) (length w.rules.items) in_list.items) word
          (subst (λ k. AreRenamings u k (rewrite_rules w.rules.items) (length w.rules.items) in_list.items) el hl);
    }

module _ (w : Completion) (s : IsSound w) where
  abbrev L : Letters
  L = letters_of w.alphabet

  -- the completion with another alphabet, other rules and another table
  abbrev changed : Alphabet → Vec Rule Global → List RewriteRule → Bool → Completion
  changed A R T closed = record {
    alphabet = A;
    zeros = w.zeros;
    degree = w.degree;
    rules = R;
    closed = closed;
    table = T;
    pairs = w.pairs;
    queued_count = w.queued_count;
    settled_count = w.settled_count;
    lower_rules = w.lower_rules;
  }

  pub sound_kept : (A : Alphabet) → IsAlphabet A → letters_of A ≡ L → (R : Vec Rule Global) → R.items ≡ w.rules.items → (T : List RewriteRule) → T ≡ w.table → IsSound (changed A R T w.closed)
  sound_kept A a eL R er T eT = record {
    alphabet = a;
    listing = subst (λ K. IsListing (record { letters = K; zeros = w.zeros.items; degree = w.degree; rules = R.items; closed = w.closed })) (sym eL)
        (subst (λ (rs : List Rule). IsListing (record { letters = L; zeros = w.zeros.items; degree = w.degree; rules = rs; closed = w.closed })) (sym er) s.listing);
    same = subst (λ (U : List RewriteRule). AreSameRules R.items U) (sym eT) (subst (λ (rs : List Rule). AreSameRules rs w.table) (sym er) s.same);
    queued = subst (λ K. IsQueued (word_order_of K) w.degree w.queued_count T w.pairs) (sym eL)
        (subst (λ (U : List RewriteRule). IsQueued (word_order_of L) w.degree w.queued_count U w.pairs) (sym eT) s.queued);
    within = subst (λ (K : Letters). w.settled_count ≤ length K.leads) (sym eL) s.within;
    parted = subst (λ (K : Letters). AreParted K.degrees w.degree K.leads (take w.settled_count K.leads) (drop w.settled_count K.leads)) (sym eL) s.parted;
    lower = subst (λ K. AreLower (word_order_of K) w.degree w.lower_rules T) (sym eL)
        (subst (λ (U : List RewriteRule). AreLower (word_order_of L) w.degree w.lower_rules U) (sym eT) s.lower);
    standard = subst (λ (K : Letters). (x : Exponents) → Contains (drop w.settled_count K.leads) x → ¬ IsMultiple w.zeros.items x) (sym eL) s.standard;
  }

  module _ (m : Exponents) (n : IsNewLead (listing_of w) m) (x : LeadChange) (h : IsLeadChange w m x) where
    abbrev u : Exponents
    u = x.rule.word

    abbrev letter : Exponents
    letter = next_letter L

    -- as the rules of one lead more write it
    abbrev same : Exponents
    same = lead_letter L (length L.leads + 0)

    abbrev old : List RewriteRule
    old = rewrite_rules w.rules.items

    abbrev pushed : List RewriteRule
    pushed = w.table ++ rewrite_rule x.rule ∷ []

    same_letter : letter ≡ same
    same_letter = ap (lead_letter L) (let e : length L.leads ≡ length L.leads + 0 = omega arith in e)

    is_rule : rewrite_rule x.rule ≡ lead_rule u letter
    is_rule = ap (λ o. record { left = u; right = o }) h.letter

    of_pushed : AreRenamings u letter pushed (length pushed) x.in_table.items
    of_pushed =
        subst (λ r. AreRenamings u letter (w.table ++ r ∷ []) (length (w.table ++ r ∷ [])) x.in_table.items) (sym is_rule)
        (renamings_pushed u letter w.table x.in_table.items (subst (λ z. z ≢ u) (sym same_letter) (letter_new w s m n u h.least)) h.in_table)

    of_old : AreRenamings u letter old (length old) x.in_list.items
    of_old = subst (λ k. AreRenamings u letter old k x.in_list.items) (sym (rewrite_length w.rules.items)) h.in_list

    pub table_within : AreWithin (length pushed) x.in_table.items
    table_within = renamings_within u letter pushed x.in_table.items of_pushed

    pub list_within : AreWithin (length w.rules.items) x.in_list.items
    list_within = subst (λ k. AreWithin k x.in_list.items) (rewrite_length w.rules.items) (renamings_within u letter old x.in_list.items of_old)

    pub word_some : u ≢ []
    word_some = least_some w s m n u h.least

    module _ (T : List RewriteRule) (t : AreSetBy x.in_table.items pushed T) (R : Vec Rule Global) (r : HasRenamedAround x.in_list.items w.rules.items R.items x.index x.rule) where
      lettered : IsLettered u same w.table T
      lettered =
          subst (λ z. IsLettered u z w.table T) same_letter (subst (λ y. AreRenamed u letter (w.table ++ y ∷ []) T) is_rule (set_renamed u letter pushed x.in_table.items T of_pushed t))

      renamed : AreRenamed u same old (rewrite_rules r.0)
      renamed = subst (λ z. AreRenamed u z old (rewrite_rules r.0)) same_letter (set_renamed u letter old x.in_list.items (rewrite_rules r.0) of_old r.1)

      named : rewrite_rule x.rule ≡ lead_rule u same
      named = is_rule ∙ ap (λ z. lead_rule u z) same_letter

      pub sound_pushed : (A : Alphabet) → IsAlphabet A → letters_of A ≡ with_leads L (m ∷ []) → IsSound (changed A R T false)
      sound_pushed A a eL = record {
        alphabet = a;
        listing = subst (λ K. IsListing (record { letters = K; zeros = w.zeros.items; degree = w.degree; rules = R.items; closed = false })) (sym eL)
            (subst (λ (rs : List Rule). IsListing (record { letters = with_leads L (m ∷ []); zeros = w.zeros.items; degree = w.degree; rules = rs; closed = false })) (sym r.2)
            (pushed_listing w s m n u h.least T lettered r.0 renamed x.index h.place x.rule named));
        same = subst (λ (rs : List Rule). AreSameRules rs T) (sym r.2) (pushed_same w s m n u h.least T lettered r.0 renamed x.index h.place x.rule named);
        queued = subst (λ K. IsQueued (word_order_of K) w.degree w.queued_count T w.pairs) (sym eL) (pushed_queued w s m n u h.least T lettered);
        within = subst (λ (K : Letters). w.settled_count ≤ length K.leads) (sym eL) (pushed_within w s m n);
        parted = subst (λ (K : Letters). AreParted K.degrees w.degree K.leads (take w.settled_count K.leads) (drop w.settled_count K.leads)) (sym eL) (pushed_parted w s m n);
        lower = subst (λ K. AreLower (word_order_of K) w.degree w.lower_rules T) (sym eL) (pushed_lower w s m n u h.least T lettered);
        standard = subst (λ (K : Letters). (y : Exponents) → Contains (drop w.settled_count K.leads) y → ¬ IsMultiple w.zeros.items y) (sym eL)
            (standard_pushed w.zeros.items w.alphabet.leads.items w.settled_count m s.within n.standard s.standard);
      }
