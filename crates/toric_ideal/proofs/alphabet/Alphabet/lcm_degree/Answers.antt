use Rattle.std.proofs.Common.{◌≡◌, ◌≤◌, ◌++◌, sym, ◌∙◌, ap, subst}
use Rattle.monomial_order.specs.Limits.{exponent_max}
use Rattle.monomial_order.specs.Monomial.{least_common_multiple, weighted_degree}
use Rattle.word_rules.specs.Rules.{rule_at}
use Rattle.word_laws.specs.Words.{lead_degrees}
use Rattle.toric_ideal.specs.Alphabet.{letters_of}
use Rattle.toric_ideal.proofs.alphabet.Alphabet.lcm_degree.Goals as goal

-- the degrees of the letters
degrees : (c : goal.After-as_slice) → c.as_slice-x_degrees.result.now ++ c.as_slice.result.now ≡ c.args.self.now.order.x_degrees.items ++ lead_degrees (letters_of c.args.self.now)
degrees c =
    ap (λ xs. xs ++ c.as_slice.result.now) c.as_slice-x_degrees.ensures.value
    ∙ ap (λ ss. c.args.self.now.order.x_degrees.items ++ ss) (c.as_slice.ensures.value ∙ c.requires.alphabet.lead_degrees)

pub lcm_degree-requires : goal.lcm_degree-requires
lcm_degree-requires c = record {
  first = c.requires.first;
  second = c.requires.second;
  small = subst (λ ws. weighted_degree ws (least_common_multiple (rule_at c.args.table.now c.args.i).left (rule_at c.args.table.now c.args.j).left) ≤ exponent_max) (sym (degrees c)) c.requires.small;
}

pub returns : goal.returns
returns c =
    c.lcm_degree.ensures ∙ ap (λ ws. weighted_degree ws (least_common_multiple (rule_at c.args.table.now c.args.i).left (rule_at c.args.table.now c.args.j).left))
    (ap (λ xs. xs ++ c.as_slice.result.now) c.as_slice-x_degrees.ensures.value
    ∙ ap (λ ss. c.args.self.now.order.x_degrees.items ++ ss) (c.as_slice.ensures.value ∙ c.requires.alphabet.lead_degrees))
