use Rattle.std.proofs.Common.{◌≡◌, ◌-◌, length}
use Rattle.word_rules.specs.Scratch.{IsListed}
use Rattle.word_rules.proofs.scratch.ScratchWord.drop_letters.Given as goal

-- the exponents stay, and their letters are listed
abbrev pub invariant-letters : goal.invariant-letters
invariant-letters l = record {
  same : l.self-inside.exponents ≡ l.initial.self-inside.exponents;
  listed : IsListed l.self-inside.exponents.items l.self-inside.letters.items;
}

abbrev pub decreases-letters : goal.decreases-letters
decreases-letters l = length l.self-inside.letters.items - l.k
