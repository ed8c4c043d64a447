use Rattle.std.proofs.Common.{ℕ, ap, subst}
use Rattle.std.specs.List.{IsDistinct}
use Rattle.std.specs.Str.{bytes_eq}
use Rattle.word_field.specs.declared.WordField.{WordField}
use Rattle.monomial_order.specs.declared.weight_order.WeightOrder.{WeightOrder}
use Rattle.poly_core.specs.declared.place_names.Names.TheVariants.{Listed}
use Rattle.poly_core.specs.declared.presentations.Presentation.{Presentation}
use Rattle.power_sums.proofs.WholeSums.{valid}
use Rattle.power_sums.proofs.power_sums.Goals as goal

pub returns-clause-valid : goal.returns-clause-valid
returns-clause-valid c =
    let p : Presentation WordField WeightOrder ℕ = record {
      field = c.field-field.result;
      order = c.in_ok-order.order;
      names = Listed c.in_ok-names.names;
      ideal = c.new.result;
      generators = c.in_ok-generators.generators;
      gen_order = c.in_ok-gen_order.gen_order;
    } in
    valid c.args.count p
    record {
      field = c.field-field.ensures;
      weights = c.in_ok-order.ensures.weights;
      rows = c.in_ok-order.ensures.rows;
      tie = c.in_ok-order.ensures.tie;
      names = ap Listed c.in_ok-names.ensures.names;
      ideal = c.new.ensures.items;
      generators = c.in_ok-generators.ensures;
      no_x = c.in_ok-gen_order.ensures.x;
      degrees = c.in_ok-gen_order.ensures.s;
    }
    c.requires.some c.requires.few (subst (IsDistinct bytes_eq) c.in_ok-names.ensures.names c.in_ok-names.ensures.distinct)
