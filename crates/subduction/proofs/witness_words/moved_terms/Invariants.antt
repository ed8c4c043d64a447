use Rattle.std.proofs.Common.{◌≡◌, take}
use Rattle.std.specs.Prelude.{map}
use Rattle.polynomials.specs.Polynomial.{term_of}
use Rattle.subduction.specs.Subduced.{witness_word}
use Rattle.subduction.proofs.witness_words.moved_terms.Given as goal

abbrev pub invariant-loop-t : goal.invariant-loop-t
invariant-loop-t g l = l.moved.items ≡ map (λ t. term_of (witness_word l.n l.k t.at) t.by) (take l.t-index l.terms)
