use Rattle.polynomials.specs.laws.Decreasing.{IsDecreasing_unique}
use Rattle.polynomials.specs.laws.NormalForm.{normal_form_unique}
use Rattle.quotient_gb.proofs.laws.normal_form_is_unique.Goals as goal

pub returns : goal.returns
returns g x = λ P H a b c fb fc hb hc. IsDecreasing_unique P.field H.field P.order H.order b c fb fc (normal_form_unique P H a b c hb hc)
