use Rattle.monomial_order.specs.Monomial.{IsMultiple}
use Rattle.word_rewriting.specs.laws.Renumbering.{renumbered, renumbered_word, renumbered_image, renumbered_unique, renumbered_reducible_exactly, renumbered_least_exactly, renumbered_rules, renumbered_generates}
use Rattle.word_rewriting.proofs.renumbering.Goals as goal

pub returns-clause-words : goal.returns-clause-words
returns-clause-words g L d before after H K v hv hd =
    let w = renumbered L H d before after K v hv hd in (
      w.0,
      w.1,
      renumbered_word L H d before after K v w.0 w.1,
      renumbered_image L H d before after K v w.0 w.1,
      λ u h. renumbered_unique L H d before after K v u w.0 h w.1,
    )

pub returns-clause-reducible : goal.returns-clause-reducible
returns-clause-reducible g L d before after H K Z = renumbered_reducible_exactly L H d before after K (IsMultiple Z)

pub returns-clause-least : goal.returns-clause-least
returns-clause-least g L d before after H K = renumbered_least_exactly L H d before after K

pub returns-clause-rules : goal.returns-clause-rules
returns-clause-rules g L d before after H K Z R S rules h = (
  renumbered_rules L H d before after K (IsMultiple Z) R S h rules,
  renumbered_generates L H d before after K (IsMultiple Z) R S h rules,
)
