use Rattle.subalgebra_laws.proofs.Growing.{value_stays, combination_grows, sums_stay, sums_back, ends_exchange, element_combines, minimal_stays, next_combinations, order_does_not_matter}
use Rattle.subalgebra_laws.proofs.Next.{products_split, next_standard, next_reduced}
use Rattle.subalgebra_laws.proofs.laws.growing.Goals as goal

pub returns : goal.returns
returns g c = record {
  values = value_stays;
  products = λ P S T d H monic high. products_split P H S T d (λ s k. (monic s k).positive) high;
  combinations = λ P S T d H n. combination_grows P H S T n.monic d n.degree n.new;
  sums = λ P S T d H n. sums_stay P H S T n.monic d n.degree n.new;
  old_sums = λ P S T H monic. sums_back P H S T monic;
  ends = λ P S T d H n U. ends_exchange P H d S T U n;
  elements = λ P S T d H. element_combines P H d S T;
  minimal = λ P S T d H. minimal_stays P H d S T;
  differ = λ P S T d H. next_standard P H d S T;
  order = λ P S T d H. order_does_not_matter P H d S T;
  step = λ P S T d H. next_combinations P H d S T;
  next = λ P S T d H. next_reduced P H S T d;
}
