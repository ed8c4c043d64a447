use Rattle.presentation_text.proofs.ReadingLaws.{read_once}
use Rattle.presentation_text.proofs.TextRead.{presentation_read}
use Rattle.presentation_text.specs.Meaning.{word_ops, pair_ops}
use Rattle.word_field.specs.Residues.{residues}
use Rattle.ext_field.specs.PairField.{pairs_of}
use Rattle.presentation_text.specs.Reading.AnyReading.{word, pair}
use Rattle.presentation_text.proofs.FieldKinds.{words, pairs_kind}
use Rattle.presentation_text.proofs.laws.read_back.Goals as goal

pub returns-clause-words : goal.returns-clause-words
returns-clause-words c = λ p q text valid is j. read_once word_ops residues word words p q text (presentation_read word_ops residues word words p text valid is) j

pub returns-clause-pairs : goal.returns-clause-pairs
returns-clause-pairs c = λ p q text valid is j. read_once pair_ops pairs_of pair pairs_kind p q text (presentation_read pair_ops pairs_of pair pairs_kind p text valid is) j
