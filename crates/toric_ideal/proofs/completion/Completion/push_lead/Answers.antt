use Rattle.std.proofs.Common.{List, length, subst, sym}
use Rattle.word_rewriting.specs.Rewriting.{RewriteRule}
use Rattle.toric_ideal.specs.declared.rule.Rule.{Rule}
use Rattle.toric_ideal.specs.Renaming.{AreSetBy, AreWithin, HasRenamedAround}
use Rattle.toric_ideal.proofs.PushedLead.{new_lead}
use Rattle.toric_ideal.proofs.SoundPushed.{list_within, sound_kept, sound_pushed, table_within, word_some}
use Rattle.toric_ideal.proofs.completion.Completion.push_lead.Goals as goal

pub push_letter-requires-clause-lead : goal.push_letter-requires-clause-lead
push_letter-requires-clause-lead c = new_lead c.args.self.now c.requires.sound c.args.m.now c.requires.lead

pub push_letter-requires-clause-word : goal.push_letter-requires-clause-word
push_letter-requires-clause-word c = word_some c.args.self.now c.requires.sound c.args.m.now c.requires.lead c.in_ok-change.change c.in_ok-change.ensures

pub returns-in_err-push_letter-clause-sound : goal.returns-in_err-push_letter-clause-sound
returns-in_err-push_letter-clause-sound c =
    sound_kept c.args.self.now c.requires.sound c.push_letter.new.alphabet c.push_letter.ensures.alphabet c.in_err-push_letter.ensures.err_letters c.reserve.new.self c.reserve.ensures.items c.push_letter.new.table c.in_err-push_letter.ensures.err_table

pub change_rules-requires-clause-in_table : goal.change_rules-requires-clause-in_table
change_rules-requires-clause-in_table c =
    subst (λ (T : List RewriteRule). AreWithin (length T) c.in_ok-change.change.in_table.items) (sym c.in_ok-push_letter.ensures.table)
    (table_within c.args.self.now c.requires.sound c.args.m.now c.requires.lead c.in_ok-change.change c.in_ok-change.ensures)

pub change_rules-requires-clause-in_list : goal.change_rules-requires-clause-in_list
change_rules-requires-clause-in_list c =
    subst (λ (rs : List Rule). AreWithin (length rs) c.in_ok-change.change.in_list.items) (sym c.reserve.ensures.items)
    (list_within c.args.self.now c.requires.sound c.args.m.now c.requires.lead c.in_ok-change.change c.in_ok-change.ensures)

pub returns-clause-sound : goal.returns-clause-sound
returns-clause-sound c =
    let x = c.in_ok-change.change in
    let T = c.change_rules.new.table in
    let R = c.change_rules.new.rules in
    let t = subst (λ (S : List RewriteRule). AreSetBy x.in_table.items S T) c.in_ok-push_letter.ensures.table c.change_rules.ensures.table in
    let r = subst (λ (rs : List Rule). HasRenamedAround x.in_list.items rs R.items x.index x.rule) c.reserve.ensures.items c.change_rules.ensures.rules in
    sound_pushed c.args.self.now c.requires.sound c.args.m.now c.requires.lead x c.in_ok-change.ensures T t R r c.push_letter.new.alphabet c.push_letter.ensures.alphabet c.in_ok-push_letter.ensures.letters
