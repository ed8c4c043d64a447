use Rattle.std.proofs.Common.{List, ℕ, subst}
use Rattle.std.specs.Prelude.{IfOk, IsSome, IsNone, Option, Some, None}
use Rattle.std.proofs.lemmas.Result.{IfOk-weaker}
use Rattle.word_laws.specs.Words.{image_of, Letters}
use Rattle.word_rewriting.specs.Completeness.{IsLeastOrZero}
use Rattle.monomial_order.specs.Monomial.{IsMultiple}
use Rattle.toric_ideal.specs.Alphabet.{letters_of}
use Rattle.toric_ideal.specs.Listing.{Listing}
use Rattle.toric_ideal.proofs.words.Words.least.Goals as goal

standard : (zeros : List (List ℕ)) (L : Letters) (m : List ℕ) (v : Option (List ℕ)) → IsLeastOrZero (IsMultiple zeros) L m v → IsSome v → ¬ IsMultiple zeros m
standard zeros L m None h s = absurd cc
standard zeros L m (Some v) h s = h.0

none : (zeros : List (List ℕ)) (L : Letters) (m : List ℕ) (v : Option (List ℕ)) → IsLeastOrZero (IsMultiple zeros) L m v → IsNone v → IsMultiple zeros m
none zeros L m None h s = h
none zeros L m (Some v) h s = absurd cc

pub returns-clause-standard : goal.returns-clause-standard
returns-clause-standard c =
    let w = c.self.inside.completion in
    let L = letters_of w.alphabet in
    subst (λ (W : Listing). IfOk c.least.result (λ v. IsSome v → ¬ IsMultiple W.zeros (image_of W.letters c.args.w.now))) c.self.view_is
    (IfOk-weaker c.least.result (IsLeastOrZero (IsMultiple w.zeros.items) L (image_of L c.args.w.now)) (λ v. IsSome v → ¬ IsMultiple w.zeros.items (image_of L c.args.w.now))
    (λ v h. standard w.zeros.items L (image_of L c.args.w.now) v h) c.least.ensures)

pub returns-clause-zero : goal.returns-clause-zero
returns-clause-zero c =
    let w = c.self.inside.completion in
    let L = letters_of w.alphabet in
    subst (λ (W : Listing). IfOk c.least.result (λ v. IsNone v → IsMultiple W.zeros (image_of W.letters c.args.w.now))) c.self.view_is
    (IfOk-weaker c.least.result (IsLeastOrZero (IsMultiple w.zeros.items) L (image_of L c.args.w.now)) (λ v. IsNone v → IsMultiple w.zeros.items (image_of L c.args.w.now))
    (λ v h. none w.zeros.items L (image_of L c.args.w.now) v h) c.least.ensures)
