use Rattle.subalgebra_laws.proofs.Combinations.{have_top_words, top_leads, top_leads_normal_form, top_least}
use Rattle.subalgebra_laws.proofs.Criterion.{lead_generated}
use Rattle.subalgebra_laws.proofs.laws.combinations.Goals as goal

pub returns : goal.returns
returns g c = record {
  tops = λ P S H HS. have_top_words P H S HS;
  leads = λ P S H HS. top_leads P H S HS;
  normal_forms = λ P S H HS e b w h t n. top_leads_normal_form P H S HS e w h t b n;
  least = λ P S H HS e a w m h t ha same la. top_least P H S HS e w h t a m ha same la;
  generated = λ P S H HS. lead_generated P H S HS;
}
