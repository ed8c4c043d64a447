-- A completion of elements and relations that are at hand.
use Rattle.std.proofs.Common.{◌≡◌, ◌≤◌, ℕ, suc, ap, subst, List, [], false, arith}
use Rattle.std.specs.Prelude.{None, Some}
use Rattle.monomial_order.specs.laws.Lists.{contains_map}
use Rattle.polynomials.specs.Polynomial.{Polynomial}
use Rattle.polynomials.specs.Subalgebra.{Presented, IsReducedBasis}
use Rattle.quotient_gb.specs.Quotient.{closing_max}
use Rattle.witness.specs.Tracking.{values_of}
use Rattle.word_values.specs.Values.{value_in, Table}
use Rattle.degree_queue.specs.DegreeQueue.{list_of}
use Rattle.poly_core.specs.declared.presentations.Presentation.{Presentation}
use Rattle.subduction.specs.Basis.{BasisState, IsBasisOf}
use Rattle.completion.specs.declared.candidates.Candidate.{Candidate}
use Rattle.completion.specs.declared.candidates.Found.{Found}
use Rattle.completion.specs.declared.relations.Relation.{Relation}
use Rattle.completion.specs.Relations.{AreRelations}
use Rattle.completion.specs.Completion.{AreShortAbove, CompletionState, IsStanding}

module _ {F E : Type 0} (P : Presented E) (b : BasisState F E) (B : IsBasisOf P b) (c : ℕ) where
  no_value : (x : Polynomial E) → None ≡ Some x → ⊥
  no_value x k = cc

  -- at the degree of the quotient and of the words; elements to the degree r came from outside
  pub standing_at : {A : Type 0} → c ≤ closing_max → b.quotient.degree ≡ c → b.words.degree ≡ c → (r : ℕ) → AreShortAbove P r b.elements →
      IsReducedBasis P c (values_of b.elements) → (relations : List (Relation F E)) → AreRelations P (values_of b.elements) c relations →
      (p : Presentation F A E) (values : Table E) (queue : List (List Candidate)) (found : List (Found F E)) → values ≡ [] → queue ≡ [] →
      IsStanding P (let s : CompletionState F A E = record { presentation = p; basis = b; values = values; kept = 0; relations = relations; degree = c; read = r; begun = false; queue = queue; found = found } in s)
  standing_at l q n r short reduced relations exact p values queue found v w = record {
    basis = B;
    small = omega arith;
    values = λ u x k. absurd (no_value x (subst (λ (t : Table E). value_in t u ≡ Some x) v k));
    kept = λ u x k. absurd (no_value x (subst (λ (t : Table E). value_in t u ≡ Some x) v k));
    short = short;
    none_later = λ d m. ap (λ (x : List (List Candidate)). list_of x d) w;
    at_degree = λ _. record {
      reduced = reduced;
      relations = exact;
      words = (omega arith, omega arith);
      quotient = omega arith;
      none_pending = ap (λ (x : List (List Candidate)). list_of x (suc c)) w;
    };
    in_degree = λ n. cc;
  }

  -- if all of them did
  pub restored_standing : {A : Type 0} → c ≤ closing_max → b.quotient.degree ≡ c → b.words.degree ≡ c →
      IsReducedBasis P c (values_of b.elements) → (relations : List (Relation F E)) → AreRelations P (values_of b.elements) c relations →
      (p : Presentation F A E) (values : Table E) (queue : List (List Candidate)) (found : List (Found F E)) → values ≡ [] → queue ≡ [] →
      IsStanding P (let s : CompletionState F A E = record { presentation = p; basis = b; values = values; kept = 0; relations = relations; degree = c; read = c; begun = false; queue = queue; found = found } in s)
  restored_standing l q n reduced = standing_at l q n c
      (λ t k m.
      let e = reduced.elements _ (contains_map (λ t. t.value) b.elements t k) in
      let a = e.at_most in absurd (omega arith))
      reduced
