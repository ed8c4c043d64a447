use Rattle.std.proofs.Common.{◌≡◌, ◌≢◌, ◌++◌, ◌∷◌, [], sym, ap, ◌∙◌, inl, inr}
use Rattle.polynomials.specs.Polynomial.{term_of}
use Rattle.poly_core.proofs.Merging.{told_differ, told_same}
use Rattle.poly_core.proofs.sums.add_last.Goals as goal

pub returns-in_ok-push : goal.returns-in_ok-push
returns-in_ok-push g c = record {
  left = c.in-Some.s;
  right = c.in-Some-pop.t;
  left_taken = c.in-Some.ensures.items;
  right_taken = c.in-Some-pop.ensures.items;
  put = inr (
    λ z. told_differ c.ne.result (g.F.Elem.PartialEq.eq c.add-by.result c.zero.result) c.if-ne.true c.ne.ensures
        ((g.met.F.Field.eq_is c.add-by.result c.zero.result).1 (c.add-by.ensures ∙ (z ∙ sym c.zero.ensures))),
    c.in_ok-push.ensures.items ∙ ap (λ x. c.args.to.now.items ++ (term_of c.in-Some.s.at x ∷ [])) c.add-by.ensures,
  );
}

pub returns-else-ne : goal.returns-else-ne
returns-else-ne g c = record {
  left = c.in-Some.s;
  right = c.in-Some-pop.t;
  left_taken = c.in-Some.ensures.items;
  right_taken = c.in-Some-pop.ensures.items;
  put = inl (
    sym c.add-by.ensures ∙ ((g.met.F.Field.eq_is c.add-by.result c.zero.result).0
        (told_same c.ne.result (g.F.Elem.PartialEq.eq c.add-by.result c.zero.result) c.if-ne.false c.ne.ensures) ∙ c.zero.ensures),
    Rattle.std.proofs.Common.refl,
  );
}
