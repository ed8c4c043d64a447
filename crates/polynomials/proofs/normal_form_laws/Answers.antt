use Rattle.polynomials.specs.laws.NormalForm.{lead_times, lead_component, normal_form_unique, normal_form_homogeneous, normal_form_bounded}
use Rattle.polynomials.specs.Polynomial.{component}
use Rattle.polynomials.proofs.normal_form_laws.Goals as goal

pub returns-clause-multiples : goal.returns-clause-multiples
returns-clause-multiples g c P k m H hk h = lead_times P H k m hk h

pub returns-clause-unique : goal.returns-clause-unique
returns-clause-unique g c P a b d H h k = normal_form_unique P H a b d h k

pub returns-clause-parts : goal.returns-clause-parts
returns-clause-parts g c P m H h = (component P.order (P.order.degree m) h.member, lead_component P H m h)

pub returns-clause-homogeneous : goal.returns-clause-homogeneous
returns-clause-homogeneous g c P d a b H ha h = normal_form_homogeneous P H a b h d ha

pub returns-clause-degrees : goal.returns-clause-degrees
returns-clause-degrees g c P d a b H ha h = normal_form_bounded P H a b h d ha
