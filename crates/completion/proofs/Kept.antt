-- What is kept over several calls.
use Rattle.std.proofs.Common.{◌≡◌, ℕ, suc, ◌<◌, ◌≤◌, refl, sym, ◌∙◌, ap, subst, List, [], ◌∷◌, ◌++◌, Bool, true, false, arith, append-nil, append_assoc}
use Rattle.std.specs.Prelude.{All, if◌then◌else◌, Result, Ok, Err, OnErr}
use Rattle.std.proofs.lemmas.List.Elements.{All-head, All-tail}
use Rattle.word_field.specs.Field.{FieldOps}
use Rattle.monomial_order.specs.MonomialOrder.{MonomialOrder}
use Rattle.monomial_order.specs.laws.Lists.{contains_at, contains_map}
use Rattle.polynomials.specs.Polynomial.{degree_of}
use Rattle.polynomials.specs.Subalgebra.{Presented}
use Rattle.poly_core.specs.Presentation.{presented}
use Rattle.witness.specs.declared.tracked.Tracked.{Tracked}
use Rattle.subduction.specs.Basis.{AreInParts}
use Rattle.completion.specs.Completion.{CompletionState, AreKept, IsAtDegree, IsCompletion, IsStanding, IsUnchanged}

module _ {F E : Type 0} (P : Presented E) where
  -- elements of degrees below d come before those of a degree e, which is not below d
  front_of : (d e : ℕ) → d ≤ e → (lower front last more : List (Tracked F E)) → front ++ last ≡ lower ++ more →
      All (λ t. degree_of P.order t.value < d) lower → All (λ t. degree_of P.order t.value ≡ e) last →
      (rest : List (Tracked F E)) × (front ≡ lower ++ rest)
  front_of d e l [] front last more s h k = (front, refl)
  front_of d e l (t ∷ lower) [] [] more s h k = absurd (no_list s)
    where
      no_list : [] ≡ t ∷ (lower ++ more) → ⊥
      no_list s = cc
  front_of d e l (t ∷ lower) [] (u ∷ last) more s h k =
      let same : u ≡ t = cc in
      let a = All-head (λ (t : Tracked F E). degree_of P.order t.value < d) t lower h in
      let b = subst (λ (t : Tracked F E). degree_of P.order t.value ≡ e) same (All-head (λ (t : Tracked F E). degree_of P.order t.value ≡ e) u last k) in
      absurd (omega arith)
  front_of d e l (t ∷ lower) (u ∷ front) last more s h k =
      let same : u ≡ t = cc in
      let tails : front ++ last ≡ lower ++ more = cc in
      let r = front_of d e l lower front last more tails (All-tail (λ (t : Tracked F E). degree_of P.order t.value < d) t lower h) k in
      (r.0, ap (λ t. t ∷ front) same ∙ ap (λ ts. t ∷ ts) r.1)

  module _ {O : Type 0} (s : CompletionState F O E) where
    -- to a closed degree all elements have smaller degrees than the next
    pub parts_at_degree : IsAtDegree P s → AreInParts P (suc s.degree) s.basis.elements s.basis.elements []
    parts_at_degree h = record {
      whole = sym (append-nil s.basis.elements);
      lower_less = λ i t l.
          let e = h.reduced.elements _ (contains_map (λ t. t.value) s.basis.elements _ (contains_at s.basis.elements i t l)) in
          let a = e.at_most in omega arith;
      last_equal = λ i t l. absurd (omega arith);
    }

    -- the elements of smaller degrees than the next, and those of that degree
    pub parts_of : IsStanding P s → (lower last : List (Tracked F E)) × AreInParts P (suc s.degree) s.basis.elements lower last
    parts_of h = by_begun s.begun refl
      where
        by_begun : (b : Bool) → s.begun ≡ b → (lower last : List (Tracked F E)) × AreInParts P (suc s.degree) s.basis.elements lower last
        by_begun true e = let d = h.in_degree e in (d.lower, d.last, d.parts)
        by_begun false e = (s.basis.elements, [], parts_at_degree (h.at_degree e))

    -- what has the same elements and relations keeps them
    pub kept_same : (t : CompletionState F O E) → t.presentation ≡ s.presentation → t.read ≡ s.read → t.basis.elements ≡ s.basis.elements → t.relations ≡ s.relations → AreKept P s t
    kept_same t p r e m = record {
      presentation = p;
      read = r;
      elements = λ lower last h. (last, e ∙ h.whole);
      relations = ([], m ∙ sym (append-nil s.relations));
    }

    pub kept_itself : AreKept P s s
    kept_itself = kept_same s refl refl refl refl

  kept_then : {O : Type 0} (s t u : CompletionState F O E) → AreKept P s t → AreKept P t u → s.degree ≤ t.degree →
      (lower last : List (Tracked F E)) × AreInParts P (suc t.degree) t.basis.elements lower last → AreKept P s u
  kept_then s t u h k l parts = record {
    presentation = k.presentation ∙ h.presentation;
    read = k.read ∙ h.read;
    elements = λ lower last p.
        let a = h.elements lower last p in
        let f = front_of (suc s.degree) (suc t.degree) (omega arith) lower parts.0 parts.1 a.0 (sym (parts.2).whole ∙ a.1) p.lower_less (parts.2).last_equal in
        let b = k.elements parts.0 parts.1 parts.2 in
        (f.0 ++ b.0, b.1 ∙ (ap (λ ts. ts ++ b.0) f.1 ∙ append_assoc lower f.0 b.0));
    relations = (h.relations.0 ++ k.relations.0, k.relations.1 ∙ (ap (λ rs. rs ++ k.relations.0) h.relations.1 ∙ append_assoc s.relations h.relations.0 k.relations.0));
  }

module _ {F O E : Type 0} (ops : F → FieldOps E) (order : O → MonomialOrder) (s t u : CompletionState F O E) where
  -- one call after another
  pub kept_after : AreKept (presented ops order s.presentation) s t → AreKept (presented ops order t.presentation) t u → s.degree ≤ t.degree → IsCompletion ops order t →
      AreKept (presented ops order s.presentation) s u
  kept_after h k l c =
      let e = h.presentation in
      kept_then (presented ops order s.presentation) s t u h (subst (λ p. AreKept (presented ops order p) t u) e k) l
      (parts_of (presented ops order s.presentation) t (subst (λ p. IsStanding (presented ops order p) t) e c.standing))

-- a degree that is begun is ended
pub not_less : (b : Bool) (c d : ℕ) → d ≡ (if b then suc c else c) → c ≤ d
not_less true c d e = omega arith
not_less false c d e = omega arith

-- an answer on out of memory
pub on_err : {T X : Type 0} (r : Result T X) (Q : Type 0) → Q → OnErr r Q
on_err (Ok x) Q q = tt
on_err (Err x) Q q = q

-- another name of the state before
module _ {F O E : Type 0} (s t u : CompletionState F O E) where
  pub kept_moved : (ops : F → FieldOps E) (order : O → MonomialOrder) → s ≡ t → AreKept (presented ops order s.presentation) s u → AreKept (presented ops order t.presentation) t u
  kept_moved ops order e h = subst (λ (t : CompletionState F O E). AreKept (presented ops order t.presentation) t u) e h

  pub unchanged_moved : s ≡ t → IsUnchanged s u → IsUnchanged t u
  unchanged_moved e h = subst (λ (t : CompletionState F O E). IsUnchanged t u) e h
