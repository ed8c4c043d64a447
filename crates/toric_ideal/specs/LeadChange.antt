-- What changes in the rules with one lead more.
use Rattle.std.specs.Prelude.{◌≡◌, Some, length}
use Rattle.monomial_order.specs.Monomial.{Exponents}
use Rattle.word_laws.specs.Words.{word_order_of, IsLeast, Letters}
use Rattle.word_rewriting.specs.Completeness.{lead_letter}
use Rattle.toric_ideal.specs.declared.completion.Completion.{Completion}
use Rattle.toric_ideal.specs.declared.leading.LeadChange.{LeadChange}
use Rattle.toric_ideal.specs.Alphabet.{letters_of}
use Rattle.toric_ideal.specs.Increasing.{IsInsertionIndex}
use Rattle.toric_ideal.specs.Renaming.{AreRenamings}
use Rattle.toric_ideal.specs.Rewriting.{rewrite_rules}
use Rattle.toric_ideal.specs.SortedRules.{words_of}

-- the letter of the next lead
abbrev pub next_letter : Letters → Exponents
next_letter L = lead_letter L (length L.leads)

-- the rule goes from the least word of m to the next letter, and the right sides that are the word become the letter
pub record IsLeadChange (w : Completion) (m : Exponents) (x : LeadChange) : Type 0 where
  pub least : IsLeast (letters_of w.alphabet) m x.rule.word
  pub letter : x.rule.least ≡ Some (next_letter (letters_of w.alphabet))
  pub place : IsInsertionIndex (word_order_of (letters_of w.alphabet)) (words_of w.rules.items) x.rule.word x.index
  pub in_table : AreRenamings x.rule.word (next_letter (letters_of w.alphabet)) w.table (length w.table) x.in_table.items
  pub in_list : AreRenamings x.rule.word (next_letter (letters_of w.alphabet)) (rewrite_rules w.rules.items) (length w.rules.items) x.in_list.items
