use Rattle.std.proofs.Common.{◌≡◌, ◌<◌, ◌≤◌, ◌+◌, ◌∙◌, ℕ, max, [], refl, sym, ap, subst, arith}
use Rattle.quotient_gb.specs.CriticalPairs.{IsFilled}
use Rattle.quotient_gb.proofs.Extending.{extends_itself, extends_chain}
use Rattle.quotient_gb.proofs.Waiting.{waits_first}
use Rattle.quotient_gb.proofs.quotient.Quotient.add_degrees.Goals as goal

below : (a d c : ℕ) → a ≡ d → d < c → c ≤ 30000 → a < 30000
below a d c e l s = omega arith

pub degrees-init : goal.degrees-init
degrees-init g c = record {
  quotient = c.requires.quotient;
  extension = extends_itself c.args.self.now c.args.self.now refl refl refl refl;
  degree = sym (ap (λ q. q.degree) c.self.view_is);
  waiting = waits_first c.args.self.now.degree c.args.self.now.pairs c.push_waiting.new.waiting
      (subst (λ xs. IsFilled [] xs c.push_waiting.new.waiting) (c.as_slice.ensures.value ∙ ap (λ q. q.pairs) c.self.view_is)
      (subst (λ q. IsFilled q c.as_slice.result.now c.push_waiting.new.waiting) c.new-waiting.ensures c.in_ok-push_waiting.ensures));
  most = first c.self.inside.degree c.args.self.now.degree c.args.c (ap (λ q. q.degree) c.self.view_is);
}
  where
    first : (a b c : ℕ) → a ≡ b → a ≤ max b c
    first a b c e = omega arith

pub add_degree-requires : goal.add_degree-requires
add_degree-requires g c = record {
  presentation = c.requires.presentation;
  places = c.requires.places;
  ideal = c.requires.ideal;
  quotient = c.degrees.invariant.quotient;
  waiting = c.degrees.invariant.waiting;
  small = below c.degrees.self.degree c.degrees._d c.args.c c.degrees.invariant.degree c.degrees-test.true c.requires.small;
}

pub returns-in_err-add_degree-clause-extension : goal.returns-in_err-add_degree-clause-extension
returns-in_err-add_degree-clause-extension g c = extends_chain _ _ _ c.degrees.invariant.extension c.in_err-add_degree.ensures.extension

pub degrees-preserved : goal.degrees-preserved
degrees-preserved g c = record {
  quotient = c.in_ok-add_degree.ensures.quotient;
  extension = extends_chain _ _ _ c.degrees.invariant.extension c.in_ok-add_degree.ensures.extension;
  degree = c.in_ok-add_degree.ensures.degree ∙ ap (λ n. n + 1) c.degrees.invariant.degree;
  waiting = c.in_ok-add_degree.ensures.waiting;
  most = within c.args.self.now.degree c.args.c c.degrees._d c.degrees-test.true;
}
  where
    within : (a c d : ℕ) → d < c → d + 1 ≤ max a c
    within a c d l = omega arith
