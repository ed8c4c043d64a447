use Rattle.std.proofs.Common.{◌≤◌, ◌∙◌, sym, subst, arith}
use Rattle.std.specs.Prelude.{Contains}
use Rattle.monomial_order.specs.Monomial.{Exponents, weighted_degree}
use Rattle.word_laws.specs.Words.{word_order_of}
use Rattle.toric_ideal.specs.Alphabet.{letters_of}
use Rattle.toric_ideal.specs.Listing.{AreRules, AreZeros, IsListing}
use Rattle.toric_ideal.proofs.SoundListings.{all_settled, none_last, leads_low, listing_extended, listing_kept, lower_all, lower_grown, old_zero, queued_later, rules_with}
use Rattle.toric_ideal.proofs.completion.Completion.extend_to.Goals as goal
use Rattle.toric_ideal.proofs.completion.Completion.extend_to.Goals.{else-self-via-then-self+else-not-has_zero_above, else-self-via-else-self}

pub grow_rules-requires-clause-leads : goal.grow_rules-requires-clause-leads
grow_rules-requires-clause-leads c = leads_low c.args.self.now c.requires.sound

pub grow_rules-requires-clause-rules : goal.grow_rules-requires-clause-rules
grow_rules-requires-clause-rules c =
    let w = c.args.self.now in
    subst (λ zs. AreRules (letters_of w.alphabet) zs w.degree w.rules.items) (sym (c.as_slice.ensures.value ∙ c.in_ok-zeros.ensures))
    (rules_with w c.requires.sound c.args.zero.now c.args.c c.requires.zero c.requires.agree)

pub returns-in-Ok-clause-sound : goal.returns-in-Ok-clause-sound
returns-in-Ok-clause-sound c =
    let w = c.args.self.now in
    record {
      alphabet = c.requires.sound.alphabet;
      listing = listing_extended w c.requires.sound c.in_ok-zeros.zeros.items c.args.c c.grow_rules.new.rules.items c.requires.small
          (subst (AreZeros w.alphabet.order.x_degrees.items c.args.c) (sym c.in_ok-zeros.ensures) c.requires.zero)
          (subst (λ zs. AreRules (letters_of w.alphabet) zs c.args.c c.grow_rules.new.rules.items) c.as_slice.ensures.value c.in-Ok.ensures.rules);
      same = c.in-Ok.ensures.same;
      queued = c.in-Ok.ensures.queued;
      within = let e = c.len-self-in-Ok.ensures in omega arith;
      parted = all_settled w c.requires.sound c.args.c c.len-self-in-Ok.result c.requires.above (let e = c.len-self-in-Ok.ensures in let o = w.alphabet.leads.ok in omega arith);
      lower = lower_grown w c.requires.sound c.args.c c.len-first.result c.requires.above c.len-first.ensures c.grow_rules.new.table c.grow_rules.ensures.first;
      standard = λ m h. absurd (none_last w c.len-self-in-Ok.result (let e = c.len-self-in-Ok.ensures in let o = w.alphabet.leads.ok in omega arith) m h);
    }

pub returns-then-not-has_zero_above-clause-sound : goal.returns-then-not-has_zero_above-clause-sound
returns-then-not-has_zero_above-clause-sound c =
    let w = c.args.self.now in
    let above = c.requires.above in
    let low : (z : Exponents) → Contains c.args.zero.now z → weighted_degree w.alphabet.order.x_degrees.items z ≤ w.degree = c.has_zero_above.ensures.no c.if-not-has_zero_above.true in
    record {
      alphabet = c.requires.sound.alphabet;
      listing = subst (λ zs. IsListing (record { letters = letters_of w.alphabet; zeros = zs; degree = c.args.c; rules = w.rules.items; closed = w.closed })) (sym c.in_ok-zeros.ensures)
          (listing_kept w c.requires.sound c.if-self.true c.args.zero.now c.args.c (omega arith) c.requires.small c.requires.zero c.requires.agree (old_zero w c.args.zero.now c.requires.agree low));
      same = c.requires.sound.same;
      queued = queued_later (word_order_of (letters_of w.alphabet)) w.degree c.args.c w.queued_count w.table w.pairs (omega arith) c.requires.sound.queued;
      within = let e = c.len-self.ensures in let o = w.alphabet.leads.ok in omega arith;
      parted = all_settled w c.requires.sound c.args.c c.len-self.result c.requires.above (let e = c.len-self.ensures in let o = w.alphabet.leads.ok in omega arith);
      lower = lower_all w c.requires.sound c.args.c c.len-self-then-not-has_zero_above.result c.requires.above c.len-self-then-not-has_zero_above.ensures;
      standard = λ m h. absurd (none_last w c.len-self.result (let e = c.len-self.ensures in let o = w.alphabet.leads.ok in omega arith) m h);
    }

pub returns-then-not-has_zero_above-clause-closed : goal.returns-then-not-has_zero_above-clause-closed
returns-then-not-has_zero_above-clause-closed c = (
  λ t. (t, old_zero c.args.self.now c.args.zero.now c.requires.agree (c.has_zero_above.ensures.no c.if-not-has_zero_above.true)),
  λ k. k.0,
)

pub returns-in-Ok-clause-closed : goal.returns-in-Ok-clause-closed
returns-in-Ok-clause-closed c = (
  λ t. absurd cc,
  λ k. absurd (elim c.else-self.branch [
    | else-self-via-then-self+else-not-has_zero_above w ↦
        let x = w.has_zero_above.ensures.yes w.if-not-has_zero_above.false in
        let d = c.requires.sound.listing.zeros.each x.0 (k.1 x.0 x.1) in
        let e = d.degree in let f = x.2 in omega arith
    | else-self-via-else-self w ↦ let t = k.0 in let f = w.if-self.false in cc
  ]),
)
