use Rattle.std.proofs.Common.{ℕ, List, ◌≡◌, ◌<◌, ◌≤◌, [], get_or, length, sym, subst}
use Rattle.std.proofs.lemmas.List.{length-map}
use Rattle.word_rules.specs.Index.{lefts_of, list_at}
use Rattle.word_rules.specs.Factors.{factors_of}
use Rattle.word_rules.specs.declared.factor.Factor.{Factor}
use Rattle.word_rules.specs.declared.word_rule.WordRule.{WordRule}
use Rattle.word_rules.specs.Sharing.{AddsAll}
use Rattle.word_rules.proofs.LetterLists.{AreLettersOf, letters_are, letters_in}
use Rattle.word_rules.proofs.Listing.{at_map, at_read}
use Rattle.word_rules.proofs.Shared.{AreSharedSoFar, all_shared, more_shared, none_shared}
use Rattle.word_rules.proofs.table.Table.list_sharing.Goals as goal

pub letters-init : goal.letters-init
letters-init c =
    subst (AreSharedSoFar (lefts_of c.args.self.now.rules.items) c.args.j (letters_in c.factors-factor-items.result.now) 0) (sym c.clear.ensures)
    (none_shared (lefts_of c.args.self.now.rules.items) c.args.j (letters_in c.factors-factor-items.result.now))

-- the letters of a rule that is read
own : (rules : List WordRule) (j : ℕ) (r : WordRule) (fs : List Factor) → j < length rules → r ≡ get_or rules j r → fs ≡ factors_of r.left →
    AreLettersOf (list_at (lefts_of rules) j) (letters_in fs)
own rules j r fs l e h =
    subst (λ w. AreLettersOf w (letters_in fs)) (sym (at_read (λ r. r.left) [] rules j r l e))
    (subst (λ gs. AreLettersOf r.left (letters_in gs)) (sym h) (letters_are r.left))

pub letters-preserved : goal.letters-preserved
letters-preserved c =
    let t = c.args.self.now in
    let fs = c.factors-factor-items.result.now in
    let k = c.letters.factor-index in
    let l = c.letters-test.true in
    more_shared (lefts_of t.rules.items) c.args.j (letters_in fs) k c.letters.marks c.mark_letter.new.marks
    (subst (λ n. c.args.j < n) (sym (length-map t.rules.items (λ r. r.left))) c.requires.inside) (own c.args.self.now.rules.items c.args.j c.index.result.now fs c.requires.inside c.index.ensures c.factors-factor-items.ensures.same)
    (subst (λ n. k < n) (sym (length-map fs (λ f. f.letter))) l) c.letters.invariant
    (subst (λ a. AddsAll (lefts_of t.rules.items) a c.args.j c.letters.marks c.mark_letter.new.marks) (sym (at_map (λ f. f.letter) 0 fs k _ l)) c.in_ok-mark_letter.ensures)

pub returns : goal.returns
returns c =
    let fs = c.factors-factor-items.result.now in
    all_shared c.args.self.now.rules.items c.args.j (letters_in fs) c.letters.factor-index c.letters.marks (own c.args.self.now.rules.items c.args.j c.index.result.now fs c.requires.inside c.index.ensures c.factors-factor-items.ensures.same)
    (subst (λ n. n ≤ c.letters.factor-index) (sym (length-map fs (λ f. f.letter))) c.letters-test.false) c.letters.invariant
