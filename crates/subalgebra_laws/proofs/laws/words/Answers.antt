use Rattle.std.proofs.Common.{subst, ⊎_elim}
use Rattle.polynomials.specs.Subalgebra.{LeadsIdeal}
use Rattle.subalgebra_laws.proofs.Generated.{images_generated, generated_images, word_sub, value_sub}
use Rattle.subalgebra_laws.proofs.laws.words.Goals as goal

pub returns : goal.returns
returns g c = record {
  images = λ P S H HS m. (images_generated P H S HS m, λ w. generated_images P H S HS m w.0 w.1 w.2);
  least = λ P S m w h st r. ⊎_elim (λ l. st.no_lead (subst (LeadsIdeal P) h.image l)) (λ v. h.least v.0 v.1) r;
  members = λ P S H HS. word_sub P H S HS;
  sums = λ P S H HS. value_sub P H S HS;
}
