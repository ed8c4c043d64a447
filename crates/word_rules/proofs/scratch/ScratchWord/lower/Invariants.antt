use Rattle.std.proofs.Common.{◌≡◌, ◌-◌, ℕ, length, take}
use Rattle.monomial_order.specs.Monomial.{exponent}
use Rattle.word_rules.specs.Scratch.{IsListed}
use Rattle.word_rules.proofs.Factors.{exponent_of}
use Rattle.word_rules.proofs.scratch.ScratchWord.lower.Given as goal

-- lowered by the letters so far
abbrev pub invariant-letters : goal.invariant-letters
invariant-letters l = record {
  listed : IsListed l.self-inside.exponents.items l.self-inside.letters.items;
  long : length l.self-inside.exponents.items ≡ length l.initial.self-inside.exponents.items;
  done : (p : ℕ) → exponent l.self-inside.exponents.items p ≡ exponent l.initial.self-inside.exponents.items p - exponent_of (take l.factor-index l.factor-items) p;
}
