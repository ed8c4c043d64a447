-- A completion at a closed degree, after its basis is marked or its values change.
use Rattle.std.proofs.Common.{◌≡◌, ℕ, ◌∙◌, sym, subst, false, true, arith}
use Rattle.polynomials.specs.Subalgebra.{Presented, IsReducedBasis}
use Rattle.witness.specs.Tracking.{values_of}
use Rattle.word_values.specs.Values.{AreValues, AreWordsTo, Table}
use Rattle.subduction.specs.Basis.{BasisState, IsBasisOf}
use Rattle.completion.specs.Completion.{elements_of, AreShortAbove, CompletionState, IsStanding}
use Rattle.completion.specs.Relations.{AreRelations}

module _ {F O E : Type 0} (P : Presented E) (s : CompletionState F O E) (st : IsStanding P s) (begun : s.begun ≡ false) where
  not_begun : {A : Type 0} → s.begun ≡ true → A
  not_begun t = absurd (let e : false ≡ true = sym begun ∙ t in cc)

  -- with a basis that has the same elements and degrees
  pub with_basis : (b : BasisState F E) → IsBasisOf P b → b.elements ≡ s.basis.elements → b.words.degree ≡ s.basis.words.degree →
      b.quotient.degree ≡ s.basis.quotient.degree → IsStanding P (record s { basis = b })
  with_basis b B same words quotient = record {
    basis = B;
    small = let l = st.small in omega arith;
    values = subst (λ ts. AreValues P (values_of ts) s.values) (sym same) st.values;
    kept = subst (λ ts. AreWordsTo P (values_of ts) s.kept s.values) (sym same) st.kept;
    short = subst (λ ts. AreShortAbove P s.read ts) (sym same) st.short;
    at_degree = λ e.
        let a = st.at_degree e in
        let low = a.words.0 in
        let high = a.words.1 in
        let top = a.quotient in
        record {
          reduced = subst (λ ts. IsReducedBasis P s.degree (values_of ts)) (sym same) a.reduced;
          relations = subst (λ ts. AreRelations P (values_of ts) s.degree s.relations) (sym same) a.relations;
          words = (omega arith, omega arith);
          quotient = omega arith;
          none_pending = a.none_pending;
        };
    in_degree = λ e. not_begun e;
    none_later = st.none_later;
  }

  -- with other values of words
  pub with_values : (kept : ℕ) (table : Table E) → AreValues P (elements_of s) table → AreWordsTo P (elements_of s) kept table →
      IsStanding P (record s { kept = kept; values = table })
  with_values kept table v w = record {
    basis = st.basis;
    small = st.small;
    values = v;
    kept = w;
    short = st.short;
    at_degree = λ e.
        let a = st.at_degree e in
        record { reduced = a.reduced; relations = a.relations; words = a.words; quotient = a.quotient; none_pending = a.none_pending };
    in_degree = λ e. not_begun e;
    none_later = st.none_later;
  }
