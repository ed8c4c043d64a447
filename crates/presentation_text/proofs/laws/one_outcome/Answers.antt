use Rattle.presentation_text.proofs.ReadingLaws.{read_has_no_fault}
use Rattle.presentation_text.specs.Meaning.{word_ops, pair_ops}
use Rattle.word_field.specs.Residues.{residues}
use Rattle.ext_field.specs.PairField.{pairs_of}
use Rattle.presentation_text.specs.Reading.AnyReading.{word, pair}
use Rattle.presentation_text.proofs.FieldKinds.{words, pairs_kind}
use Rattle.presentation_text.proofs.laws.one_outcome.Goals as goal

pub returns-clause-words : goal.returns-clause-words
returns-clause-words c = λ p text fault h e. read_has_no_fault word_ops residues word words p text fault h e

pub returns-clause-pairs : goal.returns-clause-pairs
returns-clause-pairs c = λ p text fault h e. read_has_no_fault pair_ops pairs_of pair pairs_kind p text fault h e
