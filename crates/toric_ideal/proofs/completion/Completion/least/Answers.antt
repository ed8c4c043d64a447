use Rattle.std.proofs.Common.{sym, subst, Some}
use Rattle.std.proofs.lemmas.Result.{IfOk-weaker}
use Rattle.monomial_order.specs.Monomial.{IsMultiple}
use Rattle.word_laws.specs.Words.{image_of, word_order_of}
use Rattle.word_rewriting.specs.Rewriting.{IsNormalForm}
use Rattle.word_rewriting.specs.Completeness.{IsLeastOrZero}
use Rattle.word_rules.specs.Rules.{AreDecreasing, IsSmallWord}
use Rattle.toric_ideal.specs.Alphabet.{letters_of}
use Rattle.toric_ideal.proofs.LetterLemmas.{alphabet_order}
use Rattle.toric_ideal.proofs.SoundListings.{decided_small, sound_decreasing, sound_least}
use Rattle.toric_ideal.proofs.completion.Completion.least.Goals as goal

pub rewrite-requires-clause-decreasing : goal.rewrite-requires-clause-decreasing
rewrite-requires-clause-decreasing c =
    let w = c.args.self.now in
    subst (λ O. AreDecreasing O w.table) (sym (alphabet_order w.alphabet c.requires.sound.alphabet)) (sound_decreasing w c.requires.sound)

pub returns : goal.returns
returns c =
    let w = c.args.self.now in
    let L = letters_of w.alphabet in
    IfOk-weaker c.rewrite.result (IsNormalForm w.table (Some c.args.w.now)) (IsLeastOrZero (IsMultiple w.zeros.items) L (image_of L c.args.w.now))
    (λ a n. sound_least w c.requires.sound c.args.w.now c.requires.word c.requires.degree a n) c.rewrite.ensures

pub rewrite-requires-clause-word : goal.rewrite-requires-clause-word
rewrite-requires-clause-word c =
    let w = c.args.self.now in
    subst (λ O. IsSmallWord O c.args.w.now) (sym (alphabet_order w.alphabet c.requires.sound.alphabet))
    (record { word = c.requires.word; small = decided_small w c.requires.sound ((word_order_of (letters_of w.alphabet)).degree c.args.w.now) c.requires.degree })
