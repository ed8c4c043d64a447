-- Candidates that are combinations.
use Rattle.std.specs.Prelude.{[], map, get_or}
use Rattle.polynomials.specs.Subalgebra.{Presented}
use Rattle.subalgebra_laws.specs.Words.{word_value, IsCombination}
use Rattle.completion.specs.declared.candidates.Candidate.{Candidate}
use Rattle.completion.specs.declared.candidates.Candidate.TheVariants.{Generator, Word}
use Rattle.completion.specs.Completion.{elements_of, CompletionState}

-- the generator, or the value of the word, is a combination
abbrev pub IsTreated : {F O E : Type 0} → Presented E → CompletionState F O E → Candidate → Type 0
IsTreated P s (Generator i) = IsCombination P (elements_of s) (get_or P.generators i [])
IsTreated P s (Word j) =
    IsCombination P (elements_of s) (word_value P (elements_of s) (get_or (map (λ f. f.word) s.found) j []))
