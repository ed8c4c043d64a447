use Rattle.word_laws.specs.laws.Reducible.{least_word, least_unique, least_s_word}
use Rattle.word_laws.proofs.least_word_laws.Goals as goal

pub returns-clause-exists : goal.returns-clause-exists
returns-clause-exists c = least_word

pub returns-clause-unique : goal.returns-clause-unique
returns-clause-unique c = least_unique

pub returns-clause-of_s_words : goal.returns-clause-of_s_words
returns-clause-of_s_words c = least_s_word
