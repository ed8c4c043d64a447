use Rattle.subalgebra_laws.proofs.Decisions.{words_decided, decided_zeros, zeros_stand, closed_zeros, closed_decided}
use Rattle.subalgebra_laws.proofs.laws.decisions.Goals as goal
use Rattle.polynomials.specs.laws.NormalForm.{zeros_decide}

pub returns : goal.returns
returns g c = record {
  words = λ P S n H dec HS. words_decided P H S HS n dec;
  all_words = λ P S D H dec HS closed n. words_decided P H S HS n (closed_decided P H D n closed dec);
  zeros = λ P H n. (decided_zeros P H n, λ z. zeros_decide P H n z.0 z.1);
  zero_words = λ P S H HS n zs z. zeros_stand P H n zs z S HS;
  all_zeros = λ P H D n zs closed. closed_zeros P H D n closed zs;
  all_monomials = closed_decided;
}
