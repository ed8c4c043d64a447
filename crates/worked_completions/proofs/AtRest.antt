-- What is known of a completion at a closed degree.
use Rattle.std.proofs.Common.{◌≡◌, ℕ, ◌≤◌, sym, subst, inl, [], get_or, arith}
use Rattle.std.specs.Prelude.{All}
use Rattle.word_field.specs.Residues.{residues}
use Rattle.word_field.specs.declared.WordField.{WordField}
use Rattle.monomial_order.specs.declared.weight_order.WeightOrder.{WeightOrder}
use Rattle.word_laws.specs.Words.{word_order_of}
use Rattle.poly_core.specs.Presentation.{presented, weight_order_of}
use Rattle.poly_core.specs.Text.{AreValues}
use Rattle.poly_core.specs.laws.Text.{decreasing_values}
use Rattle.polynomials.specs.Polynomial.{Polynomial, degree_of, IsCanonical}
use Rattle.polynomials.specs.Subalgebra.{Presented}
use Rattle.subalgebra_laws.specs.Words.{letters}
use Rattle.witness.specs.Tracking.{by_order}
use Rattle.subduction.specs.Subduced.{CanSubduce}
use Rattle.completion.specs.Completion.{elements_of, CompletionState, IsAtDegree}
use Rattle.worked_rows.specs.Rings.{IsIn, IsRing}
use Rattle.worked_completions.specs.Completions.{IsAtRest}

module _ (c : CompletionState WordField WeightOrder ℕ) (h : IsAtRest c) where
  abbrev pub of_ring : Presented ℕ
  of_ring = presented (λ f. residues f.modulus) weight_order_of c.presentation

  pub ring : IsRing c.presentation
  ring = h.completion.presentation

  pub at_degree : IsAtDegree of_ring c
  at_degree = h.completion.standing.at_degree h.not_begun

  -- the elements are polynomials of the ring
  pub elements_in : All (λ t. IsIn c.presentation t.value) c.basis.elements
  elements_in i z l = let e = h.completion.standing.basis.elements i z l in e.tracked.canonical.value

  -- the right sides of the relations have values of the field as coefficients
  pub right_values : All (λ r. AreValues (residues c.presentation.field.modulus) r.right) c.relations
  right_values i z l =
      let r = at_degree.relations.rights i z l in
      decreasing_values (residues c.presentation.field.modulus) (word_order_of (letters of_ring (elements_of c)))
      (get_or c.relations i z).right r.canonical.decreasing

  -- a polynomial with no witness, in reach
  pub can_subduce : (a none : Polynomial ℕ) → none ≡ [] → IsIn c.presentation a →
      degree_of (weight_order_of c.presentation.order) a ≤ c.degree →
      degree_of (weight_order_of c.presentation.order) a ≤ 30000 →
      CanSubduce of_ring c.basis (record { value = a; by = none })
  can_subduce a none e k r l = record {
    canonical = record {
      value = k;
      by = subst (IsCanonical (residues c.presentation.field.modulus) (by_order c.basis.by_order)) (sym e)
          (record { decreasing = tt; small = tt });
    };
    reach = inl (let w = at_degree.words.0 in omega arith);
    small = l;
  }
