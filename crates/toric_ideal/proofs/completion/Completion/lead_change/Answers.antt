use Rattle.std.proofs.Common.{◌≡◌, ◌+◌, ◌∙◌, ap, arith, length}
use Rattle.word_rewriting.specs.Completeness.{lead_letter}
use Rattle.toric_ideal.specs.Alphabet.{letters_of}
use Rattle.toric_ideal.proofs.PushedLead.{letter_is}
use Rattle.toric_ideal.proofs.completion.Completion.lead_change.Goals as goal

pub change_to-requires-clause-letter : goal.change_to-requires-clause-letter
change_to-requires-clause-letter c =
    let w = c.args.self.now in
    let L = letters_of w.alphabet in
    letter_is w c.requires.sound c.args.m.now c.requires.lead c.places.result c.in_ok-letter.letter c.places.ensures c.in_ok-letter.ensures ∙
    ap (lead_letter L) (let e : length L.leads + 0 ≡ length L.leads = omega arith in e)
