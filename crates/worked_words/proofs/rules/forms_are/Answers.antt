use Rattle.std.proofs.Common.{◌<◌, ℕ, List, [], ◌∷◌, take, sym, ◌∙◌, ap, subst, arith}
use Rattle.std.specs.Prelude.{Contains}
use Rattle.std.proofs.lemmas.List.{get_or-take, length-take}
use Rattle.monomial_order.specs.Monomial.{IsMultiple}
use Rattle.monomial_order.specs.Orders.{word_order}
use Rattle.word_laws.specs.Words.{word_order_of}
use Rattle.word_rewriting.specs.Rewriting.{RewriteRule}
use Rattle.word_rewriting.specs.Samples.{sample_rules, square_and_cube}
use Rattle.word_rewriting.specs.laws.Criterion.{decreasing_rules}
use Rattle.word_rules.specs.Rules.{AreDecreasing}
use Rattle.worked_words.proofs.rules.forms_are.Goals as goal

-- a rule among the first n is one of the rules
listed : (n : ℕ) (R : List RewriteRule) (r : RewriteRule) → Contains (take n R) r → Contains R r
listed n R r h =
    let l = h.1 in
    let m : h.0 < n = grind (arith, length-take, l) in
    (h.0, grind (arith, length-take, l), sym (get_or-take n R h.0 r m) ∙ h.2)

pub different_forms-requires-clause-decreasing : goal.different_forms-requires-clause-decreasing
different_forms-requires-clause-decreasing c =
    let order = ap (λ xs. word_order xs c.in_ok-order.order.s_degrees.items) c.in_ok-order.ensures.x ∙ ap (word_order (1 ∷ [])) c.in_ok-order.ensures.s in
    subst (λ O. AreDecreasing O c.args.table.now) (sym order)
    (subst (AreDecreasing (word_order_of square_and_cube)) (sym c.requires.rules.1)
    (λ r h. decreasing_rules (IsMultiple []) square_and_cube sample_rules c.sample.ensures.rules r (listed c.requires.rules.0 sample_rules r h)))
