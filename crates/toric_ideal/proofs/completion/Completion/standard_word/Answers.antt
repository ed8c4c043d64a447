use Rattle.toric_ideal.proofs.PushedLead.{lead_decided}
use Rattle.toric_ideal.proofs.SoundListings.{factor_none, factor_some}
use Rattle.toric_ideal.proofs.completion.Completion.standard_word.Goals as goal

pub least-requires-clause-degree : goal.least-requires-clause-degree
least-requires-clause-degree c = lead_decided c.args.self.now c.requires.sound c.args.m.now c.requires.lead

pub unreachable-requires : goal.unreachable-requires
unreachable-requires c =
    factor_none c.args.self.now c.requires.sound c.args.m.now c.requires.lead.monomial c.requires.lead.standard c.in_ok-word.field-0 c.in_ok-word.ensures c.in-None.is

pub returns : goal.returns
returns c =
    factor_some c.args.self.now c.requires.sound c.args.m.now c.requires.lead.monomial c.requires.lead.standard c.in_ok-word.field-0 c.in_ok-word.ensures c.in-Some.word c.in-Some.is
