use Rattle.std.proofs.Common.{refl, sym, ◌∙◌}
use Rattle.polynomials.specs.Polynomial.{lead_monomial}
use Rattle.witness.specs.Tracking.{by_order}
use Rattle.witness.specs.laws.Letters.{by_laws}
use Rattle.state_text.proofs.Degrees.{not_zero, lead_nonzero}
use Rattle.state_text.proofs.relation_line.is_graded.Goals as goal

pub returns-in-Some : goal.returns-in-Some
returns-in-Some g c = (
  λ yes. (c.has_degree.ensures.0 yes).each,
  λ graded. c.has_degree.ensures.1 (record {
    some = (
      lead_monomial c.args.a.now,
      lead_nonzero (g.F.Field.ops c.args.f.now) (g.met.F.Field.laws c.args.f.now) (by_order c.args.w.now) (by_laws c.args.w.now) c.args.a.now c.requires.decreasing
          (λ e. let first = sym c.in-Some.ensures.first.1 ∙ e in absurd cc),
    );
    each = graded;
  }),
)

pub returns-in-None : goal.returns-in-None
returns-in-None g c = (
  λ _ m n. absurd (not_zero (g.F.Field.ops c.args.f.now) (g.met.F.Field.laws c.args.f.now) (by_order c.args.w.now) (by_laws c.args.w.now) c.args.a.now m n (c.in-None.ensures.zero.0 refl)),
  λ _. refl,
)
