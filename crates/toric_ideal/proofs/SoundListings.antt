-- What holds of a completion between calls.
use Rattle.std.proofs.Common.{◌≡◌, ◌≢◌, ℕ, ◌<◌, ◌≤◌, sym, ap, subst, List, [], length, take, drop, arith, ⊎_elim, false, true, Some, None, inl, inr}
use Rattle.std.specs.Prelude.{Contains}
use Rattle.std.proofs.lemmas.List.{take-append-drop}
use Rattle.monomial_order.specs.Monomial.{Exponents, weighted_degree}
use Rattle.monomial_order.specs.Ranges.{all_between}
use Rattle.monomial_order.specs.laws.Lists.{contains_at, contains_none, map_contains}
use Rattle.monomial_order.specs.Monomial.{IsMonomial, IsMultiple}
use Rattle.word_laws.specs.Words.{Letters, AreLetters, word_order_of, image_of, IsWord, IsLeast, IsSWord}
use Rattle.word_laws.specs.laws.Words.{image_same}
use Rattle.word_laws.specs.laws.Reducible.{multiple_closed, least_s_word}
use Rattle.word_rewriting.specs.Rewriting.{WordOrZero, RewriteRule, IsNormalForm}
use Rattle.word_rewriting.specs.Completeness.{IsLeastOrZero, GeneratesReducible}
use Rattle.word_rewriting.specs.laws.Criterion.{decreasing_rules}
use Rattle.word_rewriting.specs.laws.NormalForms.{form_least}
use Rattle.word_rules.specs.Rules.{no_rule, rule_at, AreDecreasing}
use Rattle.toric_ideal.specs.Rewriting.{rewrite_rule, rewrite_rules, AreExactRules}
use Rattle.toric_ideal.proofs.ExactRules.{listed_exact}
use Rattle.toric_ideal.specs.Leads.{letters}
use Rattle.toric_ideal.specs.declared.completion.Completion.{Completion}
use Rattle.toric_ideal.specs.declared.rule.Rule.{Rule}
use Rattle.toric_ideal.specs.Alphabet.{letters_of}
use Rattle.toric_ideal.specs.Listing.{AgreeTo, AreParted, AreRules, AreZeros, IsClosed, IsDecided, IsListing}
use Rattle.monomial_order.specs.MonomialOrder.{MonomialOrder}
use Rattle.toric_ideal.specs.declared.index_pair.IndexPair.{IndexPair}
use Rattle.toric_ideal.specs.Queue.{IsQueued}
use Rattle.toric_ideal.specs.State.{listing_of, AreLower, IsSound}
use Rattle.toric_ideal.specs.Step.{KeepsFirst}
use Rattle.toric_ideal.proofs.JoiningPairs.{same_rule}
use Rattle.toric_ideal.proofs.Renamings.{rewrite_length}
use Rattle.toric_ideal.proofs.Degrees.{rules_agree, rules_none}
use Rattle.toric_ideal.proofs.LetterLemmas.{leads_letters}
use Rattle.toric_ideal.proofs.Members.{contains_parts, contains_take, drop_none}

pub leads_low : (w : Completion) → IsSound w → (m : Exponents) → Contains w.alphabet.leads.items m → weighted_degree w.alphabet.order.x_degrees.items m ≤ w.degree
leads_low w s m h =
    ⊎_elim (λ a. let l = s.parted.lower_less m a in omega arith) (λ b. let e = s.parted.last_equal m b in omega arith) (contains_parts w.alphabet.leads.items w.settled_count m h)

pub rules_with : (w : Completion) → IsSound w → (zs : List Exponents) (c : ℕ) → AreZeros w.alphabet.order.x_degrees.items c zs → AgreeTo w.alphabet.order.x_degrees.items w.degree w.zeros.items zs →
    AreRules (letters_of w.alphabet) zs w.degree w.rules.items
rules_with w s zs c h agree =
    rules_agree (letters_of w.alphabet) s.listing.letters w.degree w.zeros.items zs (λ z i. (s.listing.zeros.each z i).monomial) (λ z i. (h.each z i).monomial) agree w.rules.items s.listing.rules

-- all leads have degrees below the new one
pub all_settled : (w : Completion) → IsSound w → (c n : ℕ) → w.degree < c → n ≡ length w.alphabet.leads.items →
    AreParted (letters_of w.alphabet).degrees c w.alphabet.leads.items (take n w.alphabet.leads.items) (drop n w.alphabet.leads.items)
all_settled w s c n l e = record {
  whole = sym (take-append-drop n w.alphabet.leads.items);
  lower_less = λ m h. let d = leads_low w s m (contains_take w.alphabet.leads.items n m h) in omega arith;
  last_equal = λ m h. absurd (drop_none w.alphabet.leads.items m (subst (λ k. Contains (drop k w.alphabet.leads.items) m) e h));
}

pub none_last : (w : Completion) (n : ℕ) → n ≡ length w.alphabet.leads.items → (m : Exponents) → Contains (drop n w.alphabet.leads.items) m → ⊥
none_last w n e m h = drop_none w.alphabet.leads.items m (subst (λ k. Contains (drop k w.alphabet.leads.items) m) e h)

pub not_known : {P : Type 0} → false ≡ true → P
not_known h = absurd cc

pub listing_extended : (w : Completion) → IsSound w → (zs : List Exponents) (c : ℕ) (rules : List Rule) → c ≤ 30000 → AreZeros w.alphabet.order.x_degrees.items c zs → AreRules (letters_of w.alphabet) zs c rules →
    IsListing (record { letters = letters_of w.alphabet; zeros = zs; degree = c; rules = rules; closed = false })
listing_extended w s zs c rules l h r = record {
  letters = s.listing.letters;
  leads = s.listing.leads;
  distinct = s.listing.distinct;
  zeros = h;
  small = l;
  rules = r;
  closed = λ t. not_known t;
}

pub listing_new : (L : Letters) (xs : List ℕ) → L ≡ letters xs [] → all_between 1 30000 xs ≡ true → IsListing (record { letters = L; zeros = []; degree = 0; rules = []; closed = false })
listing_new L xs e b = subst (λ L. IsListing (record { letters = L; zeros = []; degree = 0; rules = []; closed = false })) (sym e) (record {
  letters = H;
  leads = λ m h. absurd (contains_none m h);
  distinct = λ i j d l k. absurd (omega arith);
  zeros = record { each = λ z h. absurd (contains_none z h); apart = λ i j d l k. absurd (omega arith) };
  small = omega arith;
  rules = rules_none (letters xs []) H [] (λ z h. absurd (contains_none z h));
  closed = λ t. not_known t;
})
  where
    H : AreLetters (letters xs [])
    H = leads_letters xs [] b (λ m h. absurd (contains_none m h))

-- the rules of the table are exact
pub sound_exact : (w : Completion) → IsSound w → AreExactRules (letters_of w.alphabet) w.zeros.items w.degree w.table
sound_exact w s = listed_exact (letters_of w.alphabet) s.listing.letters w.zeros.items w.degree w.table w.rules.items s.listing.rules s.same

pub sound_decreasing : (w : Completion) → IsSound w → AreDecreasing (word_order_of (letters_of w.alphabet)) w.table
sound_decreasing w s = decreasing_rules (IsMultiple w.zeros.items) (letters_of w.alphabet) w.table (sound_exact w s).rules

-- to a degree that is decided the left sides generate the reducible words
decided_generates : (w : Completion) → IsSound w → (d : ℕ) → IsDecided (listing_of w) d → GeneratesReducible (IsMultiple w.zeros.items) (letters_of w.alphabet) w.table d
decided_generates w s d h v hv e r =
    ⊎_elim (λ l. (sound_exact w s).generates v hv (omega arith) r)
    (λ k. let x = s.listing.closed k.0 v hv r in (rewrite_rule x.0, s.same.there x.0 x.1, x.2)) h

pub decided_small : (w : Completion) → IsSound w → (d : ℕ) → IsDecided (listing_of w) d → d ≤ 65535
decided_small w s d h = ⊎_elim (λ l. let m = s.listing.small in omega arith) (λ k. k.1) h

-- all rules have degrees below a greater one
pub lower_all : (w : Completion) → IsSound w → (c n : ℕ) → w.degree < c → n ≡ length w.table → AreLower (word_order_of (letters_of w.alphabet)) c n w.table
lower_all w s c n l e = record {
  within = omega arith;
  less = λ k b. let a = (sound_exact w s).degree (rule_at w.table k) (contains_at w.table k no_rule (omega arith)) in omega arith;
}

-- so have the same rules at the start of a longer table
pub lower_grown : (w : Completion) → IsSound w → (c n : ℕ) → w.degree < c → n ≡ length w.table → (T : List RewriteRule) → KeepsFirst (length w.table) w.table T → AreLower (word_order_of (letters_of w.alphabet)) c n T
lower_grown w s c n l e T h = record {
  within = let a = h.within in omega arith;
  less = λ k b.
      let q = ap (λ (r : RewriteRule). (word_order_of (letters_of w.alphabet)).degree r.left) (same_rule (length w.table) w.table T h k (omega arith)) in
      let a = (lower_all w s c n l e).less k b in omega arith;
}

-- a rule of the list is in the table
pub listed_there : (w : Completion) → IsSound w → (k : ℕ) → k < length w.rules.items → Contains w.table (rule_at (rewrite_rules w.rules.items) k)
listed_there w s k l =
    let n = rewrite_length w.rules.items in
    let x = map_contains rewrite_rule w.rules.items (rule_at (rewrite_rules w.rules.items) k) (contains_at (rewrite_rules w.rules.items) k no_rule (omega arith)) in
    subst (Contains w.table) x.2 (s.same.there x.0 x.1)

-- a normal form of a word is the least word with its image, or zero
pub sound_least : (w : Completion) → IsSound w → (v : Exponents) → IsWord (letters_of w.alphabet) v → IsDecided (listing_of w) ((word_order_of (letters_of w.alphabet)).degree v) →
    (a : WordOrZero) → IsNormalForm w.table (Some v) a → IsLeastOrZero (IsMultiple w.zeros.items) (letters_of w.alphabet) (image_of (letters_of w.alphabet) v) a
sound_least w s v hv d a n =
    let e = (word_order_of (letters_of w.alphabet)).degree v in
    form_least (IsMultiple w.zeros.items) (letters_of w.alphabet) s.listing.letters w.table (sound_exact w s).rules (multiple_closed (length (letters_of w.alphabet).degrees) w.zeros.items) e (decided_generates w s e d) v hv (omega arith) a n

-- the least word with the image of a standard monomial, which is an s-word if some s-word has this image
module _ (w : Completion) (s : IsSound w) (m : Exponents) (hm : IsMonomial (length (letters_of w.alphabet).degrees) m) (standard : ¬ IsMultiple w.zeros.items m)
    (a : WordOrZero) (h : IsLeastOrZero (IsMultiple w.zeros.items) (letters_of w.alphabet) (image_of (letters_of w.alphabet) m) a) where
  pub factor_some : (v : Exponents) → a ≡ Some v → IsLeast (letters_of w.alphabet) m v
  factor_some v e =
      let k : IsLeastOrZero (IsMultiple w.zeros.items) (letters_of w.alphabet) (image_of (letters_of w.alphabet) m) (Some v) = subst (IsLeastOrZero (IsMultiple w.zeros.items) (letters_of w.alphabet) (image_of (letters_of w.alphabet) m)) e h in
      subst (λ x. IsLeast (letters_of w.alphabet) x v) (image_same (letters_of w.alphabet) s.listing.letters m hm) k.1

  pub factor_none : a ≡ None → ⊥
  factor_none e =
      let k : IsMultiple w.zeros.items (image_of (letters_of w.alphabet) m) = subst (IsLeastOrZero (IsMultiple w.zeros.items) (letters_of w.alphabet) (image_of (letters_of w.alphabet) m)) e h in
      standard (subst (IsMultiple w.zeros.items) (image_same (letters_of w.alphabet) s.listing.letters m hm) k)

  pub factor_s_word : (v : Exponents) → a ≡ Some v → ¬ IsSWord (letters_of w.alphabet) v → (u : Exponents) → IsSWord (letters_of w.alphabet) u → image_of (letters_of w.alphabet) u ≢ m
  factor_s_word v e none u hu q = none (least_s_word (letters_of w.alphabet) s.listing.letters m u v (factor_some v e) hu q)

-- if all zeros have degrees of at most the old one, they are old
pub old_zero : (w : Completion) → (zs : List Exponents) → AgreeTo w.alphabet.order.x_degrees.items w.degree w.zeros.items zs → ((z : Exponents) → Contains zs z → weighted_degree w.alphabet.order.x_degrees.items z ≤ w.degree) →
    (z : Exponents) → Contains zs z → Contains w.zeros.items z
old_zero w zs agree low z h = (agree z (low z h)).1 h

-- a closed listing has its rules in every degree
pub listing_kept : (w : Completion) → IsSound w → w.closed ≡ true → (zs : List Exponents) (c : ℕ) → w.degree ≤ c → c ≤ 30000 → AreZeros w.alphabet.order.x_degrees.items c zs → AgreeTo w.alphabet.order.x_degrees.items w.degree w.zeros.items zs →
    ((z : Exponents) → Contains zs z → Contains w.zeros.items z) → IsListing (record { letters = letters_of w.alphabet; zeros = zs; degree = c; rules = w.rules.items; closed = w.closed })
listing_kept w s t zs c l m h agree old = record {
  letters = s.listing.letters;
  leads = s.listing.leads;
  distinct = s.listing.distinct;
  zeros = h;
  small = m;
  rules = record {
    increasing = r.increasing;
    minimal = r.minimal;
    degree = λ x k. let d = r.degree x k in omega arith;
    least = r.least;
    all = λ v k d.
        let x = divides v k.word k.reducible in
        let y = r.minimal x.0 x.1 in
        (x.0, x.1, k.minimal x.0.word y.word y.reducible x.2);
  };
  closed = λ _. divides;
}
  where
    r : AreRules (letters_of w.alphabet) zs w.degree w.rules.items
    r = rules_with w s zs c h agree

    divides : IsClosed (record { letters = letters_of w.alphabet; zeros = zs; degree = c; rules = w.rules.items; closed = w.closed })
    divides v hv red = s.listing.closed t v hv (⊎_elim (λ z. inl (z.0, old z.0 z.1, z.2)) (λ x. inr x) red)

pub queued_later : (O : MonomialOrder) (c d n : ℕ) (R : List RewriteRule) (queue : List (List IndexPair)) → c ≤ d → IsQueued O c n R queue → IsQueued O d n R queue
queued_later O c d n R queue l q = record { within = q.within; each = λ e p a h. q.each e p (omega arith) h; all = λ i j a b x y. q.all i j a b (omega arith) y }
