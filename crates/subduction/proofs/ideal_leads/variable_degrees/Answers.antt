use Rattle.std.proofs.Common.{sym, ◌∙◌, ap, ◌++◌, ◌∷◌, []}
use Rattle.subduction.proofs.IdealLeads.{more_variables}
use Rattle.subduction.proofs.ideal_leads.variable_degrees.Goals as goal

pub variables-preserved : goal.variables-preserved
variables-preserved g c =
    c.in_ok-push.ensures.items ∙
    (ap (λ xs. xs ++ c.degree.result ∷ []) c.variables.invariant ∙
    (ap (λ d. Rattle.std.specs.Prelude.map (g.O.Order.order c.args.o.now).degree (Rattle.word_laws.specs.Words.variables 0 c.variables.i) ++ d ∷ []) (c.degree.ensures ∙ ap (g.O.Order.order c.args.o.now).degree c.in_ok-variable.ensures) ∙
    sym (more_variables (g.O.Order.order c.args.o.now).degree c.variables.i)))
