use Rattle.std.proofs.Common.{sym, subst}
use Rattle.word_laws.specs.laws.Words.{degree_x}
use Rattle.toric_ideal.specs.Alphabet.{letters_of}
use Rattle.toric_ideal.specs.Listing.{IsDecided}
use Rattle.toric_ideal.specs.State.{listing_of}
use Rattle.toric_ideal.proofs.SoundListings.{factor_none, factor_s_word, factor_some}
use Rattle.toric_ideal.proofs.completion.Completion.factor.Goals as goal

pub least-requires-clause-degree : goal.least-requires-clause-degree
least-requires-clause-degree c =
    let w = c.args.self.now in
    let e = degree_x (letters_of w.alphabet) c.requires.sound.listing.letters c.args.m.now c.requires.monomial in
    subst (IsDecided (listing_of w)) (sym e) c.requires.degree

pub returns-then-has_x : goal.returns-then-has_x
returns-then-has_x c =
    factor_s_word c.args.self.now c.requires.sound c.args.m.now c.requires.monomial c.requires.standard c.in_ok-word.field-0 c.in_ok-word.ensures c.in-Some.word c.in-Some.is (c.has_x.ensures.other c.if-has_x.true)

pub returns-else-has_x : goal.returns-else-has_x
returns-else-has_x c = (
  c.has_x.ensures.s_word c.if-has_x.false,
  factor_some c.args.self.now c.requires.sound c.args.m.now c.requires.monomial c.requires.standard c.in_ok-word.field-0 c.in_ok-word.ensures c.in-Some.word c.in-Some.is,
)

pub returns-in-None : goal.returns-in-None
returns-in-None c = absurd (factor_none c.args.self.now c.requires.sound c.args.m.now c.requires.monomial c.requires.standard c.in_ok-word.field-0 c.in_ok-word.ensures c.in-None.is)
