use Rattle.std.proofs.Common.{◌≡◌, ◌∙◌, refl, sym, ap, subst, List, [], arith, false}
use Rattle.std.specs.Prelude.{Contains}
use Rattle.monomial_order.specs.laws.Lists.{contains_none}
use Rattle.word_rewriting.specs.Rewriting.{RewriteRule}
use Rattle.degree_queue.specs.DegreeQueue.{list_of}
use Rattle.toric_ideal.specs.declared.index_pair.IndexPair.{IndexPair}
use Rattle.toric_ideal.specs.declared.rule.Rule.{Rule}
use Rattle.toric_ideal.specs.Leads.{letters}
use Rattle.toric_ideal.specs.Alphabet.{letters_of}
use Rattle.toric_ideal.specs.Listing.{IsListing}
use Rattle.toric_ideal.specs.Rewriting.{AreSameRules}
use Rattle.toric_ideal.proofs.SoundListings.{listing_new}
use Rattle.toric_ideal.proofs.completion.Completion.new.Goals as goal

same_none : AreSameRules [] []
same_none = record { there = λ r h. absurd (contains_none r h); back = λ t h. absurd (contains_none t h) }

pub returns-clause-sound : goal.returns-clause-sound
returns-clause-sound c =
    let a = c.in_ok-new.field-0 in
    let z : c.new-3.result.items ≡ [] = c.new-3.ensures.items in
    let r : c.new-4.result.items ≡ [] = c.new-4.ensures.items in
    let e : letters_of a ≡ letters c.args.x_degrees.now [] = ap (λ xs. letters xs a.leads.items) c.in_ok-new.ensures.degrees ∙ ap (letters c.args.x_degrees.now) (c.in_ok-new.ensures.leads ∙ c.new.ensures.items) in
    record {
      alphabet = c.in_ok-new.ensures.alphabet;
      listing = subst (λ zs. IsListing (record { letters = letters_of a; zeros = zs; degree = 0; rules = c.new-4.result.items; closed = false })) (sym z)
          (subst (λ (rs : List Rule). IsListing (record { letters = letters_of a; zeros = []; degree = 0; rules = rs; closed = false })) (sym r)
          (listing_new (letters_of a) c.args.x_degrees.now e c.requires));
      same = subst (λ (rs : List Rule). AreSameRules rs c.new-5.result) (sym r) (subst (λ (t : List RewriteRule). AreSameRules [] t) (sym c.new-5.ensures) same_none);
      queued = record {
        within = omega arith;
        each = λ d p l h. absurd (contains_none p (subst (λ (q : List (List IndexPair)). Contains (list_of q d) p) c.new-6.ensures h));
        all = λ i j l m. absurd (omega arith);
      };
      within = omega arith;
      parted = record {
        whole = refl;
        lower_less = λ m h. absurd (contains_none m h);
        last_equal = λ m h. absurd (contains_none m (subst (λ ms. Contains ms m) (c.in_ok-new.ensures.leads ∙ c.new.ensures.items) h));
      };
      lower = record { within = omega arith; less = λ k l. absurd (omega arith) };
      standard = λ m h. absurd (contains_none m (subst (λ ms. Contains ms m) (c.in_ok-new.ensures.leads ∙ c.new.ensures.items) h));
    }
