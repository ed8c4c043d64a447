-- Summing up the terms of a line one after the other.
use Rattle.std.proofs.Common.{◌≡◌, ℕ, suc, Bool, false, List, [], ◌∷◌, ◌++◌, length, Option, Some, None, Result, Ok, Err, refl, sym, ap, subst, ◌∙◌, append_assoc}
use Rattle.std.proofs.lemmas.List.{append-nil}
use Rattle.word_field.specs.Field.{FieldOps, IsField}
use Rattle.monomial_order.specs.declared.terms.Term.{Term}
use Rattle.monomial_order.specs.MonomialOrder.{MonomialOrder}
use Rattle.polynomials.specs.Polynomial.{Polynomial, Same, IsCanonical, coefficient}
use Rattle.polynomials.specs.laws.Same.{append_same}
use Rattle.poly_core.specs.declared.place_names.Names.{Names}
use Rattle.polynomial_text.specs.declared.line_fault.LineKind.{LineKind}
use Rattle.polynomial_text.specs.declared.line_fault.LineFault.{LineFault}
use Rattle.polynomial_text.specs.Canonical.{IsLineFaultOf}
use Rattle.polynomial_text.specs.Results.{◌>>=◌, each}
use Rattle.polynomial_text.specs.PolyLine.{term_at, terms_of, signed_parts, behind_sign, IsPolyOf}
use Rattle.polynomial_text.specs.LineReading.{AreCanonical, terms_together}
use Rattle.polynomial_text.proofs.LineReading.{fault_passes}

-- how many bytes are left, and one more if there is a part
abbrev pub signed_len : Option (Bool × List ℕ) → ℕ
signed_len None = 0
signed_len (Some x) = suc (length x.1)

-- terms before what is read
abbrev pub with_front : {A : Type 0} → List A → Result (List A) LineKind → Result (List A) LineKind
with_front front read = read >>= λ more. Ok (front ++ more)

front_more : {A : Type 0} (front : List A) (t : A) (read : Result (List A) LineKind) → with_front front (read >>= λ more. Ok (t ∷ more)) ≡ with_front (front ++ t ∷ []) read
front_more front t (Ok more) = ap (λ ts. Ok ts) (sym (append_assoc front (t ∷ []) more))
front_more front t (Err kind) = refl

front_none : {A : Type 0} (read : Result (List A) LineKind) → with_front [] read ≡ read
front_none (Ok more) = refl
front_none (Err kind) = refl

module _ {E : Type 0} (K : FieldOps E) (F : IsField K) (O : MonomialOrder) (names : Names) where
  -- the list sums up the terms that were read, and the parts that are left give the rest of them
  pub record IsSummed (line : List ℕ) (left : List (Bool × List ℕ)) (stack : List (Polynomial E)) : Type 0 where
    pub canonical : AreCanonical K O stack
    pub seen : Polynomial E
    pub same : Same K (terms_together stack) seen
    pub whole : with_front seen (each (term_at K O names) left) ≡ terms_of K O names line

  pub begins : (line : List ℕ) (left : List (Bool × List ℕ)) (stack : List (Polynomial E)) → stack ≡ [] → behind_sign (signed_parts false line) ≡ left → IsSummed line left stack
  unfolding terms_of
  begins line left stack none split = record {
    canonical = rw none tt;
    seen = [];
    same = λ m. ap (λ qs. coefficient K (terms_together qs) m) none;
    whole = front_none (each (term_at K O names) left) ∙ ap (each (term_at K O names)) (sym split);
  }

  pub goes_on : (line : List ℕ) (parts left : List (Bool × List ℕ)) (part : Bool × List ℕ) (t : Term E) (stack more : List (Polynomial E)) → parts ≡ part ∷ left → term_at K O names part ≡ Ok t →
      AreCanonical K O more → Same K (terms_together more) (terms_together stack ++ t ∷ []) → IsSummed line parts stack → IsSummed line left more
  unfolding each
  goes_on line parts left part t stack more split here canonical added h = record {
    canonical = canonical;
    seen = h.seen ++ t ∷ [];
    same = λ m. added m ∙ append_same K F (terms_together stack) h.seen (t ∷ []) (t ∷ []) h.same (λ k. refl) m;
    whole = sym (front_more h.seen t (each (term_at K O names) left)) ∙ (rw (split, here) at h.whole);
  }

  pub stops : (line : List ℕ) (parts left : List (Bool × List ℕ)) (part : Bool × List ℕ) (stack : List (Polynomial E)) (e : LineFault LineKind) → parts ≡ part ∷ left → IsLineFaultOf (term_at K O names part) e →
      IsSummed line parts stack → IsLineFaultOf (terms_of K O names line) e
  unfolding each
  stops line parts left part stack e split here h =
      subst (λ (r : Result (Polynomial E) LineKind). IsLineFaultOf r e) h.whole (rw split (fault_passes _ (λ more. Ok (h.seen ++ more)) e (fault_passes (term_at K O names part) _ e here)))

  pub ends : (line : List ℕ) (stack : List (Polynomial E)) (p : Polynomial E) → IsCanonical K O p → Same K p (terms_together stack) → IsSummed line [] stack → IsPolyOf K O names line p
  unfolding each
  ends line stack p canonical sum h = record {
    terms = h.seen;
    read = sym h.whole ∙ ap (λ ts. Ok ts) (append-nil h.seen);
    sum = λ m. sum m ∙ h.same m;
    canonical = canonical;
  }
