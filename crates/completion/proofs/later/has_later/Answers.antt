use Rattle.completion.proofs.later.has_later.Goals as goal

pub returns-clause-no : goal.returns-clause-no
returns-clause-no g c t = record {
  generators = λ f k. c.has_higher.ensures.no c.if-has_higher.false f (rw c.as_slice.ensures.value k);
  ideal = λ f k. c.has_higher-2.ensures.no c.if-has_higher-2.false f (rw c.as_slice-2.ensures.value k);
  leads = c.has_new_lead.ensures.no c.if-has_new_lead.false;
  rules = c.has_new_word.ensures.no t;
}
