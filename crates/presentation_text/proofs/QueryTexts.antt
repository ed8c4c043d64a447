-- The polynomials of a query file, one after the other.
use Rattle.std.proofs.Common.{◌≡◌, ℕ, List, [], ◌∷◌, ◌++◌, Result, Ok, Err, refl, sym, ap, subst, ◌∙◌, append_assoc}
use Rattle.std.specs.Prelude.{All, IfOk, IfErr}
use Rattle.std.specs.List.{AllByRecursion}
use Rattle.std.proofs.lemmas.List.{append-nil}
use Rattle.std.proofs.lemmas.List.Elements.{All-from_recursion}
use Rattle.word_field.specs.Field.{FieldOps}
use Rattle.monomial_order.specs.MonomialOrder.{MonomialOrder}
use Rattle.poly_core.specs.declared.place_names.Names.{Names}
use Rattle.polynomial_text.specs.declared.line_fault.LineFault.{LineFault}
use Rattle.presentation_text.specs.declared.text_fault.TextFault.{TextFault}
use Rattle.polynomial_text.specs.Results.{◌>>=◌, each}
use Rattle.presentation_text.specs.declared.text_kind.TextKind.{TextKind}
use Rattle.presentation_text.specs.Kinds.{Fault, in_text}
use Rattle.polynomial_text.specs.Degrees.{IsLow}
use Rattle.polynomial_text.specs.PolyLine.{terms_of, IsPolyOf}
use Rattle.presentation_text.specs.Reading.{Line, at_line, queries}
use Rattle.polynomial_text.specs.Canonical.{IsLineFaultOf}
use Rattle.presentation_text.specs.Meaning.{AreSums, AreQueries, IsFaultOf}
use Rattle.presentation_text.specs.Giving.{fault_at, located}
use Rattle.presentation_text.specs.Pending.{Pending, pending}
use Rattle.presentation_text.proofs.NextLines.{at_ok, at_err, fault_passes, sums_push}
use Rattle.presentation_text.proofs.PolyLines.{in_text_ok}
use Rattle.polynomial_text.specs.laws.CanonicalParts.{each_append}
use Rattle.polynomials.specs.Polynomial.{Polynomial}

-- what was made of a line
pub located_ok : {A : Type 0} (P : A → Type 0) (number : ℕ) (r : Result A (LineFault TextKind)) (x : A) → Ok x ≡ located number r → IfOk r P → P x
located_ok P number (Ok y) x is h = let same : y ≡ x = cc in subst P same h
located_ok P number (Err e) x is h = absurd cc

module _ {E : Type 0} (K : FieldOps E) (O : MonomialOrder) (names : Names) where
  -- what was read before, and what is still read
  abbrev pub with_sums : List (Polynomial E) → Result (List (Polynomial E)) Fault → Result (List (Polynomial E)) Fault
  with_sums front read = read >>= λ x. Ok (front ++ x)

  abbrev pub read_line : List ℕ → Result (Polynomial E) TextKind
  read_line line = in_text (terms_of K O names line)

  abbrev pub sums_of : List Line → Result (List (Polynomial E)) Fault
  sums_of ls = each (at_line read_line) ls

  regroup : (front : List (Polynomial E)) (sum : Polynomial E) (read : Result (List (Polynomial E)) Fault) → with_sums front (read >>= λ x. Ok (sum ∷ x)) ≡ with_sums (front ++ sum ∷ []) read
  regroup front sum (Ok x) = ap (λ (l : List (Polynomial E)). Ok l) (sym (append_assoc front (sum ∷ []) x))
  regroup front sum (Err e) = refl

  none_before : (read : Result (List (Polynomial E)) Fault) → with_sums [] read ≡ read
  none_before (Ok x) = refl
  none_before (Err e) = refl

  -- some polynomials were read, and what is still read gives the whole
  pub record HaveCome (ls : List Line) (text : List ℕ) (ps : List (Polynomial E)) : Type 0 where
    pub sums : List (Polynomial E)
    pub is : with_sums sums (sums_of ls) ≡ queries K O names text
    pub same : AreSums K O sums ps
    pub low : AllByRecursion (IsLow O) ps

  pub come_first : (text : List ℕ) (l : Pending) → l ≡ pending 1 text → HaveCome l.left text []
  come_first text l e = record { sums = []; is = none_before (sums_of l.left) ∙ rw e refl; same = tt; low = tt }

  pub come_next : (number : ℕ) (bytes : List ℕ) (ls rest : List Line) (text : List ℕ) (ps : List (Polynomial E)) (p : Polynomial E)
      → ls ≡ (number, bytes) ∷ rest → HaveCome ls text ps → IsPolyOf K O names bytes p → IsLow O p → HaveCome rest text (ps ++ p ∷ [])
  unfolding each
  come_next number bytes ls rest text ps p split h s low =
      let first : at_line read_line (number, bytes) ≡ Ok s.terms = at_ok read_line number bytes s.terms (in_text_ok (terms_of K O names bytes) s.terms s.read) in
      let step : with_sums h.sums (sums_of ls) ≡ with_sums (h.sums ++ s.terms ∷ []) (sums_of rest) = rw (split, first) (regroup h.sums s.terms (sums_of rest)) in
      record { sums = h.sums ++ s.terms ∷ []; is = sym step ∙ h.is; same = sums_push K O h.sums ps s.terms p h.same (s.sum, s.canonical, tt); low = each_append (IsLow O) ps (p ∷ []) h.low (low, tt) }

  pub come_stop : (number : ℕ) (bytes : List ℕ) (ls rest : List Line) (text : List ℕ) (ps : List (Polynomial E)) (e : LineFault TextKind)
      → ls ≡ (number, bytes) ∷ rest → HaveCome ls text ps → IsLineFaultOf (read_line bytes) e → IsFaultOf (queries K O names text) (fault_at number e)
  unfolding each
  come_stop number bytes ls rest text ps e split h k =
      let line_fails = fault_passes (at_line read_line (number, bytes)) _ (fault_at number e) (at_err read_line number bytes e k) in
      subst (λ (r : Result (List (Polynomial E)) Fault). IsFaultOf r (fault_at number e)) h.is (rw split (fault_passes _ (λ x. Ok (h.sums ++ x)) (fault_at number e) line_fails))

  pub come_all : (ls : List Line) (text : List ℕ) (ps : List (Polynomial E)) → ls ≡ [] → HaveCome ls text ps → AreQueries K O names text ps
  unfolding each
  come_all ls text ps none h = record { sums = h.sums; read = sym (rw none at h.is) ∙ ap (λ (l : List (Polynomial E)). Ok l) (append-nil h.sums); polys = h.same }

  pub come_low : (ls : List Line) (text : List ℕ) (ps : List (Polynomial E)) → HaveCome ls text ps → All (IsLow O) ps
  come_low ls text ps h = All-from_recursion (IsLow O) ps h.low

  pub located_stop : (number : ℕ) (bytes : List ℕ) (ls rest : List Line) (text : List ℕ) (ps : List (Polynomial E)) (r : Result (Polynomial E) (LineFault TextKind)) (e : TextFault)
      → ls ≡ (number, bytes) ∷ rest → HaveCome ls text ps → Err e ≡ located number r → IfErr r (IsLineFaultOf (read_line bytes)) → IsFaultOf (queries K O names text) e
  located_stop number bytes ls rest text ps (Ok q) e split h is k = absurd cc
  located_stop number bytes ls rest text ps (Err f) e split h is k = let same : fault_at number f ≡ e = cc in subst (IsFaultOf (queries K O names text)) same (come_stop number bytes ls rest text ps f split h k)
