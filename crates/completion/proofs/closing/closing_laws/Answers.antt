use Rattle.completion.proofs.closing.closing_laws.Goals as goal

pub returns : goal.returns
returns g c = record {
  sums = c.combining.ensures.sums;
  multiples = c.combining.ensures.multiples;
  congruent = c.combining.ensures.congruent;
  elements = c.growing.ensures.elements;
  ends = c.growing.ensures.ends;
  values = c.growing.ensures.values;
  stay = c.growing.ensures.sums;
  minimal = c.growing.ensures.minimal;
  split = c.growing.ensures.products;
  next = c.growing.ensures.next;
}
