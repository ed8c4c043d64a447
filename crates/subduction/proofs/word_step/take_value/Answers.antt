use Rattle.std.proofs.Common.{◌≡◌, refl, true, false}
use Rattle.subduction.proofs.word_step.take_value.Goals as goal

impossible : false ≡ true → ⊥
impossible e = cc

pub unreachable-requires : goal.unreachable-requires
unreachable-requires g c = impossible (c.in_default.ensures.ready.1 ((rw c.in-None.is at c.in_ok-value.ensures.ready) refl))
