use Rattle.std.proofs.Common.{◌≡◌, ◌+◌, ℕ, length, take}
use Rattle.monomial_order.specs.Monomial.{exponent}
use Rattle.word_rules.proofs.Factors.{exponent_of}
use Rattle.word_rules.proofs.scratch.ScratchWord.multiply.Given as goal

-- multiplied by the letters so far
abbrev pub invariant-letters : goal.invariant-letters
invariant-letters l = record {
  long : length l.self ≡ length l.initial.self;
  done : (p : ℕ) → exponent l.self p ≡ exponent l.initial.self p + exponent_of (take l.factor-index l.factor-items) p;
}
