-- A list whose first term is taken.
use Rattle.std.proofs.Common.{◌≡◌, sym, ◌∙◌, ap, ◌∷◌, ◌+◌}
use Rattle.monomial_order.specs.declared.terms.Term.{Term}
use Rattle.polynomials.specs.Polynomial.{Polynomial}
use Rattle.linked_terms.specs.Chain.{Chain}

-- the old list is the term that was taken and what is left
pub popped : {E : Type 0} (old new : Chain E) (t : Term E) → ((rest : Polynomial E) × (old.terms ≡ t ∷ rest) × (new ≡ record { terms = rest; spare = old.spare + 1 })) → old.terms ≡ t ∷ new.terms
popped old new t h = h.1 ∙ sym (ap (λ c. t ∷ c.terms) h.2)
