use Rattle.presentation_text.proofs.ReadWhole.{read_from}
use Rattle.presentation_text.specs.Meaning.{word_ops, pair_ops}
use Rattle.word_field.specs.Residues.{residues}
use Rattle.ext_field.specs.PairField.{pairs_of}
use Rattle.presentation_text.specs.Reading.AnyReading.{word, pair}
use Rattle.presentation_text.proofs.FieldKinds.{words, pairs_kind}
use Rattle.presentation_text.proofs.laws.reading_is_valid.Goals as goal

pub returns-clause-words : goal.returns-clause-words
returns-clause-words c = λ text r p e from. read_from word_ops residues word words text r p e from

pub returns-clause-pairs : goal.returns-clause-pairs
returns-clause-pairs c = λ text r p e from. read_from pair_ops pairs_of pair pairs_kind text r p e from
