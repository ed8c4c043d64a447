use Rattle.subalgebra_laws.proofs.Combinations.{combination_plus, combination_multiple, combination_congruent, combination_word}
use Rattle.subalgebra_laws.proofs.laws.combining.Goals as goal

pub returns : goal.returns
returns g c = record {
  sums = λ P S H HS. combination_plus P H S HS;
  multiples = λ P S H HS. combination_multiple P H S HS;
  congruent = λ P S H HS. combination_congruent P H S HS;
  words = λ P S H HS. combination_word P H S HS;
}
