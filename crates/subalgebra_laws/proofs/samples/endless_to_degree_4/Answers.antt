use Rattle.std.proofs.Common.{[], ◌∷◌, refl}
use Rattle.subalgebra_laws.specs.Words.{word_value}
use Rattle.subalgebra_laws.specs.Samples.{sum_xy, x_times_y, endless, endless_basis, endless_word, right_side}
use Rattle.subalgebra_laws.proofs.Endless.{presentation, decided, monic, combinations, s2_squared, relation, right_side_sum, right_side_top, next_to, start_checked, fourth_element, fourth_combinations, generators_combine}
use Rattle.subalgebra_laws.proofs.samples.endless_to_degree_4.Goals as goal

pub returns : goal.returns
returns c =
    let start = (c.checked_basis.ensures endless presentation 3 endless.generators (decided 3)).0 start_checked in
    record {
      start = start;
      basis = c.growing.ensures.next endless endless.generators (x_times_y 3 ∷ []) 4 presentation next_to 3 refl (decided 4) start fourth_element fourth_combinations;
      members = c.criterion.ensures.members endless endless_basis 4 presentation (decided 4) monic combinations;
      leads = c.criterion.ensures.leads endless endless_basis 4 presentation (decided 4) monic combinations;
      products = (c.words.ensures.images endless endless_basis presentation monic (2 ∷ (2 ∷ []))).1 (s2_squared, right_side_sum.words s2_squared right_side_top.nonzero, refl);
      sums = c.combining.ensures.sums endless endless_basis presentation monic sum_xy (x_times_y 1) generators_combine.0 generators_combine.1;
      lead = (c.combinations.ensures.leads endless endless_basis presentation monic right_side s2_squared right_side_sum right_side_top).0;
      right_side = λ e h same. c.uniqueness.ensures.sums endless endless_basis presentation monic (word_value endless endless_basis endless_word) e right_side h right_side_sum same relation;
    }
