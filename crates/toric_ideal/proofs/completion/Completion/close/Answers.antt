use Rattle.std.proofs.Common.{sym, subst}
use Rattle.toric_ideal.specs.Alphabet.{letters_of}
use Rattle.toric_ideal.specs.Closing.{CanClose, ShowsMissedWord}
use Rattle.toric_ideal.proofs.ClosedListings.{can_close, joined_closes, listing_closed, unjoined_misses}
use Rattle.toric_ideal.proofs.completion.Completion.close.Goals as goal

pub returns-then-self-clause-yes : goal.returns-then-self-clause-yes
returns-then-self-clause-yes c _ = c.requires.sound.listing.closed c.if-self.true

pub all_joined-requires-clause-rules : goal.all_joined-requires-clause-rules
all_joined-requires-clause-rules c =
    let w = c.args.self.now in
    subst (λ zs. CanClose (letters_of w.alphabet) zs w.degree w.table) (sym c.as_slice.ensures.value) (can_close w c.requires.sound c.requires.small)

pub returns-clause-sound : goal.returns-clause-sound
returns-clause-sound c = record {
  alphabet = c.requires.sound.alphabet;
  listing = listing_closed c.args.self.now c.requires.sound c.in_ok-closed.closed (λ t. joined_closes c.args.self.now c.requires.sound (c.in_ok-closed.ensures.yes t));
  same = c.requires.sound.same;
  queued = c.requires.sound.queued;
  within = c.requires.sound.within;
  parted = c.requires.sound.parted;
  lower = c.requires.sound.lower;
  standard = c.requires.sound.standard;
}

pub returns-clause-yes : goal.returns-clause-yes
returns-clause-yes c t = joined_closes c.args.self.now c.requires.sound (c.in_ok-closed.ensures.yes t)

pub returns-clause-no : goal.returns-clause-no
returns-clause-no c f =
    let w = c.args.self.now in
    unjoined_misses w c.requires.sound (subst (λ zs. ShowsMissedWord (letters_of w.alphabet) zs w.table) c.as_slice.ensures.value (c.in_ok-closed.ensures.no f))
