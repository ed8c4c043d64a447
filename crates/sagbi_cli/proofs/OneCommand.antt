-- Words have one command at most.
use Rattle.std.proofs.Common.{◌≡◌, ◌∙◌, ℕ, ◌≤◌, List, refl, sym, arith}
use Rattle.std.specs.Fmt.{decimal}
use Rattle.std.proofs.lemmas.Fmt.{decimal_injective}
use Rattle.completion.specs.declared.pick.Pick.TheVariants.{First, Last}
use Rattle.sagbi_cli.specs.Command.{IsCommand}
use Rattle.sagbi_cli.specs.SameCommand.{IsSameCommand}
use Rattle.sagbi_cli.specs.declared.command.Command.{Command}
use Rattle.sagbi_cli.specs.declared.command.Command.TheVariants.{Complete, Ask, Relations, Trial}

same_number : (m n : ℕ) → m ≤ 15000 → n ≤ 15000 → decimal m ≡ decimal n → m ≡ n
same_number m n k l e = decimal_injective m n (omega arith) (omega arith) e

pub one_command : (words : List (List ℕ)) (a b : Command) → IsCommand words a → IsCommand words b → IsSameCommand a b
one_command words (Complete p m First) (Complete q n First) h k = let e = sym h.0 ∙ k.0 in (cc, same_number m n h.1.bounded.1 k.1.bounded.1 cc, refl)
one_command words (Complete p m First) (Complete q n Last) h k = let e = sym h.0 ∙ k.0 in absurd cc
one_command words (Complete p m First) (Ask q n t) h k = let e = sym h.0 ∙ k.0 in absurd cc
one_command words (Complete p m First) (Relations q n) h k = let e = sym h.0 ∙ k.0 in absurd cc
one_command words (Complete p m First) (Trial n) h k = let e = sym h.0 ∙ k.0 in absurd cc
one_command words (Complete p m Last) (Complete q n First) h k = let e = sym h.0 ∙ k.0 in absurd cc
one_command words (Complete p m Last) (Complete q n Last) h k = let e = sym h.0 ∙ k.0 in (cc, same_number m n h.1.bounded.1 k.1.bounded.1 cc, refl)
one_command words (Complete p m Last) (Ask q n t) h k = let e = sym h.0 ∙ k.0 in absurd cc
one_command words (Complete p m Last) (Relations q n) h k = let e = sym h.0 ∙ k.0 in absurd cc
one_command words (Complete p m Last) (Trial n) h k = let e = sym h.0 ∙ k.0 in absurd cc
one_command words (Ask p m s) (Complete q n First) h k = let e = sym h.0 ∙ k.0 in absurd cc
one_command words (Ask p m s) (Complete q n Last) h k = let e = sym h.0 ∙ k.0 in absurd cc
one_command words (Ask p m s) (Ask q n t) h k = let e = sym h.0 ∙ k.0 in (cc, same_number m n h.1.bounded.1 k.1.bounded.1 cc, cc)
one_command words (Ask p m s) (Relations q n) h k = let e = sym h.0 ∙ k.0 in absurd cc
one_command words (Ask p m s) (Trial n) h k = let e = sym h.0 ∙ k.0 in absurd cc
one_command words (Relations p m) (Complete q n First) h k = let e = sym h.0 ∙ k.0 in absurd cc
one_command words (Relations p m) (Complete q n Last) h k = let e = sym h.0 ∙ k.0 in absurd cc
one_command words (Relations p m) (Ask q n t) h k = let e = sym h.0 ∙ k.0 in absurd cc
one_command words (Relations p m) (Relations q n) h k = let e = sym h.0 ∙ k.0 in (cc, same_number m n h.1.bounded.1 k.1.bounded.1 cc)
one_command words (Relations p m) (Trial n) h k = let e = sym h.0 ∙ k.0 in absurd cc
one_command words (Trial m) (Complete q n First) h k = let e = sym h.0 ∙ k.0 in absurd cc
one_command words (Trial m) (Complete q n Last) h k = let e = sym h.0 ∙ k.0 in absurd cc
one_command words (Trial m) (Ask q n t) h k = let e = sym h.0 ∙ k.0 in absurd cc
one_command words (Trial m) (Relations q n) h k = let e = sym h.0 ∙ k.0 in absurd cc
one_command words (Trial m) (Trial n) h k = let e = sym h.0 ∙ k.0 in same_number m n (omega (arith, h.1.1)) (omega (arith, k.1.1)) cc
