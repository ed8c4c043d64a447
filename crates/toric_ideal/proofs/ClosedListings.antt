-- Listings whose pairs above the degree are joined.
use Rattle.std.proofs.Common.{◌≡◌, ℕ, ◌+◌, ◌<◌, ◌≤◌, sym, ap, subst, [], length, get_or, arith, ⊎_elim, Bool, true}
use Rattle.std.proofs.lemmas.List.{get_or_default}
use Rattle.monomial_order.specs.Monomial.{Exponents, Divides, IsMultiple, AreCoprime}
use Rattle.monomial_order.specs.laws.Comparing.{le_or_not}
use Rattle.monomial_order.specs.laws.Lists.{contains_at, map_contains}
use Rattle.word_laws.specs.Words.{Letters, word_order_of}
use Rattle.word_laws.specs.laws.Reducible.{multiple_closed}
use Rattle.word_rewriting.specs.Rewriting.{RewriteRule, HasJoinablePair, HasLeftDivisor}
use Rattle.word_rewriting.specs.Completeness.{AreComplete, AreInX, HaveDegreesTo}
use Rattle.word_rewriting.specs.laws.Complete.{complete_exactly, generates_complete, zero_multiples}
use Rattle.word_rewriting.specs.laws.Criterion.{decreasing_rules}
use Rattle.word_rewriting.specs.laws.Pairs.{pairs_enough}
use Rattle.word_rules.specs.Rules.{no_rule, rule_at}
use Rattle.toric_ideal.specs.declared.completion.Completion.{Completion}
use Rattle.toric_ideal.specs.Alphabet.{letters_of}
use Rattle.toric_ideal.specs.Closing.{with_closed, CanClose, HasMissedWord, JoinsPairsOf, ShowsMissedWord}
use Rattle.toric_ideal.specs.Listing.{HasRuleDivisor, IsClosed, IsListing}
use Rattle.toric_ideal.specs.Rewriting.{rewrite_rule}
use Rattle.toric_ideal.specs.State.{listing_of, IsSound}
use Rattle.toric_ideal.specs.Step.{pair_degree}
use Rattle.toric_ideal.proofs.SoundListings.{leads_low, sound_exact}

module _ (w : Completion) (s : IsSound w) where
  abbrev L : Letters
  L = letters_of w.alphabet

  in_x : AreInX L w.zeros.items
  in_x z h = (s.listing.zeros.each z h).monomial

  rule_divisor : (v : Exponents) → HasLeftDivisor w.table v → HasRuleDivisor w.rules.items v
  rule_divisor v d =
      let x = map_contains rewrite_rule w.rules.items d.0 (s.same.back d.0 d.1) in
      (x.0, x.1, subst (λ (t : RewriteRule). Divides t.left v) (sym x.2) d.2)

  left_divisor : (v : Exponents) → HasRuleDivisor w.rules.items v → HasLeftDivisor w.table v
  left_divisor v d = (rewrite_rule d.0, s.same.there d.0 d.1, d.2)

  bound : HaveDegreesTo w.zeros.items L w.table w.degree
  bound = record {
    leads = leads_low w s;
    zeros = λ z h. (s.listing.zeros.each z h).degree;
    lefts = (sound_exact w s).degree;
  }

  complete : ((j : ℕ) → j < length w.table → JoinsPairsOf (word_order_of L) w.degree w.table j) → AreComplete w.zeros.items L w.table (w.degree + w.degree)
  complete h = record {
    leads = λ i l e. old.leads i l (leads_low w s (get_or L.leads i []) (contains_at L.leads i [] l));
    zeros = λ z k e. old.zeros z k (s.listing.zeros.each z k).degree;
    pairs = pairs_enough (word_order_of L) w.table (decreasing_rules (IsMultiple w.zeros.items) L w.table (sound_exact w s).rules) (w.degree + w.degree)
        (λ i j q l m ne e.
        let x : get_or w.table i q ≡ rule_at w.table i = get_or_default w.table i q no_rule (omega arith) in
        let y : get_or w.table j q ≡ rule_at w.table j = get_or_default w.table j q no_rule m in
        subst (λ r. HasJoinablePair w.table r (get_or w.table j q)) (sym x) (subst (λ r. HasJoinablePair w.table (rule_at w.table i) r) (sym y)
        (⊎_elim
        (λ b. old.pairs (rule_at w.table i) (rule_at w.table j) (contains_at w.table i no_rule (omega arith)) (contains_at w.table j no_rule m) b)
        (λ b. ⊎_elim
        (λ co. absurd (ne (subst (λ (r : RewriteRule). AreCoprime r.left (get_or w.table j q).left) (sym x) (subst (λ (r : RewriteRule). AreCoprime (rule_at w.table i).left r.left) (sym y) co))))
        (λ p. p (omega (arith, b))) (h j m i l))
        (le_or_not (pair_degree (word_order_of L) w.table i j) w.degree))));
  }
    where
      old : AreComplete w.zeros.items L w.table w.degree
      old = generates_complete (IsMultiple w.zeros.items) L s.listing.letters w.table (sound_exact w s).rules w.zeros.items (multiple_closed (length L.degrees) w.zeros.items) w.degree
          (zero_multiples L w.zeros.items in_x w.degree) (sound_exact w s).generates

  pub joined_closes : ((j : ℕ) → j < length w.table → JoinsPairsOf (word_order_of L) w.degree w.table j) → IsClosed (listing_of w)
  joined_closes h v hv r =
      rule_divisor v
      (((complete_exactly (IsMultiple w.zeros.items) L s.listing.letters w.table (sound_exact w s).rules w.zeros.items (multiple_closed (length L.degrees) w.zeros.items) w.degree
      (λ c. zero_multiples L w.zeros.items in_x c) bound).0 (complete h) v hv).0 r)

  pub unjoined_misses : ShowsMissedWord L w.zeros.items w.table → HasMissedWord (listing_of w)
  unjoined_misses m = (m.0, m.1, m.2, λ d. m.3 (left_divisor m.0 d))

  pub can_close : w.degree ≤ 15000 → CanClose L w.zeros.items w.degree w.table
  can_close l = record { exact = sound_exact w s; small = l }

  pub listing_closed : (b : Bool) → (b ≡ true → IsClosed (listing_of w)) → IsListing (with_closed b (listing_of w))
  listing_closed b h = record {
    letters = s.listing.letters;
    leads = s.listing.leads;
    distinct = s.listing.distinct;
    zeros = s.listing.zeros;
    small = s.listing.small;
    rules = s.listing.rules;
    closed = λ t. h t;
  }

  pub known_listing : w.closed ≡ true → listing_of w ≡ with_closed true (listing_of w)
  known_listing e = ap (λ b. with_closed b (listing_of w)) e
