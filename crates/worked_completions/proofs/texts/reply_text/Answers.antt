use Rattle.word_field.specs.Residues.{residues}
use Rattle.poly_core.specs.laws.Text.{decreasing_values}
use Rattle.witness.specs.Tracking.{by_order}
use Rattle.worked_completions.proofs.texts.reply_text.Goals as goal

pub sum_text-requires : goal.sum_text-requires
sum_text-requires c =
    decreasing_values (residues c.args.p.now.field.modulus) (by_order c.args.p.now.gen_order) c.in-Member.h
    (rw c.in-Member.is at c.requires.canonical).decreasing

pub text_of-requires-clause-canonical : goal.text_of-requires-clause-canonical
text_of-requires-clause-canonical c = rw c.in-No.is at c.requires.canonical
