use Rattle.std.proofs.Common.{arith, sym, subst, ◌∙◌}
use Rattle.word_field.specs.Field.{IsValue}
use Rattle.polynomial_text.specs.laws.Names.{place_below}
use Rattle.polynomial_text.proofs.factor.power_at.Goals as goal

pub returns-clause-factor : goal.returns-clause-factor
returns-clause-factor g c = record {
  value = subst (IsValue (g.F.Field.ops c.args.reader.now.field.now)) (sym c.one.ensures) (g.met.F.Field.laws c.args.reader.now.field.now).one_value;
  place = λ some.
      let below = place_below c.places.result c.args.reader.now.names.now c.split.result.0.now c.in_ok-place.place (sym c.in_ok-place.ensures.ok_part ∙ c.place.ensures) in
      omega (arith, below, c.places.ensures);
}
