use Rattle.std.proofs.Common.{ℕ, ◌≡◌, ◌+◌, ◌<◌, ◌≤◌, ap, arith, ◌∙◌, refl, sym, subst, length}
use Rattle.std.specs.Prelude.{Contains}
use Rattle.poly_core.specs.Presentation.{presented}
use Rattle.quotient_gb.specs.CriticalPairs.{HasPairs, IsFilled, Waits}
use Rattle.quotient_gb.specs.Quotient.{IsQuotientOf}
use Rattle.quotient_gb.proofs.Extending.{begins_itself, begins_if, extends_view}
use Rattle.quotient_gb.proofs.Finishing.{next_quotient}
use Rattle.quotient_gb.proofs.Steps.{all_leads}
use Rattle.quotient_gb.proofs.Waiting.{pairs_at, waits_next}
use Rattle.quotient_gb.proofs.quotient.Quotient.add_degree.Goals as goal

pub returns-in_err-append-clause-extension : goal.returns-in_err-append-clause-extension
returns-in_err-append-clause-extension g c = extends_view _ _ _ c.self.view_is (begins_itself _ _ refl) (begins_if _ _ _ _ c.append.ensures.items) (begins_itself _ _ refl) refl

pub returns-in_err-append-2-clause-extension : goal.returns-in_err-append-2-clause-extension
returns-in_err-append-2-clause-extension g c =
    extends_view _ _ _ c.self.view_is (begins_if _ _ _ _ c.append-2.ensures.items) (begins_if _ _ _ _ c.append.ensures.items) (begins_itself _ _ refl) refl

pub critical_pairs-requires : goal.critical_pairs-requires
critical_pairs-requires g c =
    let P = presented g.F.Field.ops g.O.Order.order c.args.p.now in
    let b = c.self.inside.basis in
    let s = c.in_ok-step.step in
    let f = c.in_ok-step.ensures.finished in
    record {
      leads = λ n k. (all_leads P c.requires.presentation b s f.step f.divides n (subst (λ xs. Contains xs n) (c.as_slice-2.ensures.value ∙ c.in_ok-append-2.ensures.items) k)).0;
      small = λ n k. (all_leads P c.requires.presentation b s f.step f.divides n (subst (λ xs. Contains xs n) (c.as_slice-2.ensures.value ∙ c.in_ok-append-2.ensures.items) k)).1;
    }

pub returns-in_err-pairs-clause-extension : goal.returns-in_err-pairs-clause-extension
returns-in_err-pairs-clause-extension g c =
    extends_view _ _ _ c.self.view_is (begins_if _ _ _ _ c.append-2.ensures.items) (begins_if _ _ _ _ c.append.ensures.items) (begins_itself _ _ refl) refl

pub returns-in_err-append-3-clause-extension : goal.returns-in_err-append-3-clause-extension
returns-in_err-append-3-clause-extension g c =
    extends_view _ _ _ c.self.view_is (begins_if _ _ _ _ c.append-2.ensures.items) (begins_if _ _ _ _ c.append.ensures.items) (begins_if _ _ _ _ c.append-3.ensures.items) refl

pub returns-clause-quotient : goal.returns-clause-quotient
returns-clause-quotient g c =
    let P = presented g.F.Field.ops g.O.Order.order c.args.p.now in
    let b = c.self.inside.basis in
    let s = c.in_ok-step.step in
    let ls = c.as_slice-2.result.now in
    let vs = c.in_ok-pairs.pairs.items in
    next_quotient P c.requires.presentation b _ (subst (IsQuotientOf P) (sym c.self.view_is) c.requires.quotient) refl refl s c.in_ok-step.ensures.finished c.in_ok-step.ensures.degree vs
    (subst (λ xs. HasPairs P.order xs (length b.leads.items) (length xs) vs) (c.as_slice-2.ensures.value ∙ c.in_ok-append-2.ensures.items)
    (subst (λ xs. HasPairs P.order ls (length xs) (length ls) vs) c.as_slice-start.ensures.value c.in_ok-pairs.ensures))
    _ (sym c.in_ok-step.ensures.degree) c.in_ok-append.ensures.items c.in_ok-append-2.ensures.items c.in_ok-append-3.ensures.items refl

pub after-requires-clause-before : goal.after-requires-clause-before
after-requires-clause-before g c =
    let P = presented g.F.Field.ops g.O.Order.order c.args.p.now in
    let q = subst (IsQuotientOf P) (sym c.self.view_is) c.requires.quotient in
    let w = subst (λ q. Waits q.degree q.pairs c.args.waiting.now) (sym c.self.view_is) c.requires.waiting in (
      c.self.inside.degree,
      refl,
      record { leads = q.leads; basis = q.basis },
      pairs_at c.self.inside.degree _ refl c.self.inside.pairs.items c.args.waiting.now w P.order c.self.inside.basis.leads.items q.pairs (next_small c.self.inside.degree c.args.self.now.degree (ap (λ q. q.degree) c.self.view_is) c.requires.small)
          c.as_slice.result.now (c.as_slice.ensures.value ∙ c.in_ok-waited.ensures.all),
    )
  where
    next_small : (a b : ℕ) → a ≡ b → b < 30000 → a + 1 ≤ 30000
    next_small a b e l = omega arith

pub returns-in_err-push_waiting-clause-extension : goal.returns-in_err-push_waiting-clause-extension
returns-in_err-push_waiting-clause-extension g c =
    extends_view _ _ _ c.self.view_is (begins_if _ _ _ _ c.append-2.ensures.items) (begins_if _ _ _ _ c.append.ensures.items) (begins_itself _ _ refl) refl

pub returns-clause-waiting : goal.returns-clause-waiting
returns-clause-waiting g c =
    let w = subst (λ q. Waits q.degree q.pairs c.args.waiting.now) (sym c.self.view_is) c.requires.waiting in
    subst (λ xs. Waits (c.self.inside.degree + 1) xs c.push_waiting.new.waiting) (sym c.in_ok-append-3.ensures.items)
    (waits_next c.self.inside.degree _ refl c.self.inside.pairs.items c.args.waiting.now w c.take_waiting.new.waiting c.push_waiting.new.waiting c.in_ok-pairs.pairs.items c.in_ok-waited.ensures.others
    (subst (λ xs. IsFilled c.take_waiting.new.waiting xs c.push_waiting.new.waiting) c.as_slice-3.ensures.value c.in_ok-push_waiting.ensures))
