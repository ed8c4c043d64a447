use Rattle.subalgebra_laws.proofs.Combinations.{sums_unique}
use Rattle.subalgebra_laws.proofs.Remainders.{remainder_unique, member_remainder, remainder_member, sum_and_rest_unique, rests_decide, leads_determine}
use Rattle.subalgebra_laws.proofs.Next.{increasing_equal}
use Rattle.subalgebra_laws.proofs.laws.uniqueness.Goals as goal

pub returns : goal.returns
returns g c = record {
  sums = λ P S H HS. sums_unique P H S HS;
  remainders = remainder_unique;
  members = λ P H a r h. (member_remainder P H a r h, remainder_member P H a r h);
  rests = λ P S H HS. sum_and_rest_unique P H S HS;
  combinations = λ P S H HS. rests_decide P H S HS;
  linear = λ P S H HS. leads_determine P H S HS;
  lists = increasing_equal;
}
