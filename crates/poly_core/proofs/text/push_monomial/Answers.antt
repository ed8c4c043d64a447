use Rattle.std.proofs.Common.{◌≡◌, ◌++◌, ap, sym, ◌∙◌, append-nil}
use Rattle.poly_core.proofs.Texts.{after_zero, after_factor, star}
use Rattle.poly_core.proofs.text.push_monomial.Goals as goal
use Rattle.poly_core.proofs.text.push_monomial.Goals.{then-e-ne0+in_ok-push_factor, then-not-first+in_ok-push_byte, else-not-first, else-e-ne0}

pub loop-i-preserved : goal.loop-i-preserved
loop-i-preserved c =
    elim c.if-e-ne0.branch [
      | then-e-ne0+in_ok-push_factor w ↦
          let started : w.if-not-first.out.items ≡ c.loop-i.out.items ++ star c.loop-i.first =
          elim w.if-not-first.branch [
            | then-not-first+in_ok-push_byte w' ↦ ap (λ v. v.items) w'.out-is ∙ (w'.in_ok-push_byte.ensures ∙ ap (λ b. c.loop-i.out.items ++ star b) (sym w'.if-not-first.true))
            | else-not-first w' ↦ ap (λ v. v.items) w'.out-is ∙ (sym (append-nil c.loop-i.out.items) ∙ ap (λ b. c.loop-i.out.items ++ star b) (sym w'.if-not-first.false))
          ] in
          after_factor c.args.names.now c.args.m.now c.loop-i.i c.loop-i-test.true c.loop-i.first c.if-e-ne0.first c.loop-i.out.items w.if-not-first.out.items c.if-e-ne0.out.items _ w.if-e-ne0.true w.first-is started (ap (λ v. v.items) w.out-is ∙ w.in_ok-push_factor.ensures) c.loop-i.invariant
      | else-e-ne0 w ↦
          after_zero c.args.names.now c.args.m.now c.loop-i.i c.loop-i-test.true c.loop-i.first c.if-e-ne0.first c.loop-i.out.items c.if-e-ne0.out.items _ w.if-e-ne0.false w.first-is (ap (λ v. v.items) w.out-is) c.loop-i.invariant
    ]
