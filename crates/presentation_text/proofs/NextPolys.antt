-- The polynomials of the next lines.
use Rattle.std.proofs.Common.{◌≡◌, ℕ, suc, ◌+◌, ◌-◌, ◌<◌, ◌≤◌, List, [], ◌∷◌, ◌++◌, length, Result, Ok, Err, refl, sym, ap, subst, ◌∙◌, arith, append_assoc, length-append}
use Rattle.std.specs.Prelude.{IfOk, IfErr}
use Rattle.std.proofs.lemmas.List.{append-nil}
use Rattle.word_field.specs.Field.{FieldOps}
use Rattle.monomial_order.specs.MonomialOrder.{MonomialOrder}
use Rattle.poly_core.specs.Presentation.{AreCanonicalGenerators, IsCanonicalGenerator}
use Rattle.polynomial_text.specs.declared.line_fault.LineFault.{LineFault}
use Rattle.presentation_text.specs.declared.text_fault.TextFault.{TextFault}
use Rattle.presentation_text.specs.declared.text_kind.TextKind.{TextKind}
use Rattle.polynomial_text.specs.Results.{◌>>=◌}
use Rattle.presentation_text.specs.Kinds.{Fault}
use Rattle.presentation_text.specs.Heading.{count_max}
use Rattle.presentation_text.specs.Reading.{Line, next, several}
use Rattle.polynomial_text.specs.Canonical.{IsLineFaultOf}
use Rattle.presentation_text.specs.Meaning.{AreSums, IsFaultOf}
use Rattle.presentation_text.specs.Giving.{located}
use Rattle.presentation_text.specs.PolySums.{IsSumIn, AreSumsIn}
use Rattle.presentation_text.proofs.NextLines.{next_ok, next_err, fault_passes, sums_push}
use Rattle.polynomials.specs.Polynomial.{Polynomial}

pub poly_fails : {E X : Type 0} (f : List ℕ → Result (Polynomial E) TextKind) (last number : ℕ) (bytes : List ℕ) (ls rest : List Line) (r : Result X (LineFault TextKind)) (s : Result X TextFault)
    → ls ≡ (number, bytes) ∷ rest → IfErr r (IsLineFaultOf (f bytes)) → s ≡ located number r → IfErr s (IsFaultOf (next last f ls))
poly_fails f last number bytes ls rest (Ok x) s split h is = rw is tt
poly_fails f last number bytes ls rest (Err e) s split h is = rw is (next_err f last number bytes ls rest e split h)

module _ {E : Type 0} (K : FieldOps E) (O : MonomialOrder) where
  pub poly_gives : (f : List ℕ → Result (Polynomial E) TextKind) (last number : ℕ) (bytes : List ℕ) (ls rest : List Line) (r : Result (Polynomial E) (LineFault TextKind)) (s : Result (Polynomial E) TextFault)
      → ls ≡ (number, bytes) ∷ rest → IfOk r (IsSumIn K O (λ sum. f bytes ≡ Ok sum)) → s ≡ located number r → IfOk s (IsSumIn K O (λ sum. next last f ls ≡ Ok (sum, rest)))
  poly_gives f last number bytes ls rest (Ok p) s split h is =
      rw is (record { sum = h.sum; is = next_ok f last number bytes ls rest h.sum split h.is; same = h.same; generator = h.generator })
  poly_gives f last number bytes ls rest (Err e) s split h is = rw is tt

  -- ---- several polynomials

  generators_push : (ps : List (Polynomial E)) (p : Polynomial E) → AreCanonicalGenerators K O ps → IsCanonicalGenerator K O p → AreCanonicalGenerators K O (ps ++ p ∷ [])
  generators_push [] p h k = (k, tt)
  generators_push (q ∷ ps) p h k = (h.0, generators_push ps p h.1 k)

-- what was read before, and what is still read
abbrev pub with_sums : {E : Type 0} → List (Polynomial E) → Result (List (Polynomial E) × List Line) Fault → Result (List (Polynomial E) × List Line) Fault
with_sums front read = read >>= λ x. Ok (front ++ x.0, x.1)

regroup : {E : Type 0} (front : List (Polynomial E)) (sum : Polynomial E) (read : Result (List (Polynomial E) × List Line) Fault) → with_sums front (read >>= λ x. Ok (sum ∷ x.0, x.1)) ≡ with_sums (front ++ sum ∷ []) read
regroup {E} front sum (Ok x) = ap (λ (l : List (Polynomial E)). Ok (l, x.1)) (sym (append_assoc front (sum ∷ []) x.0))
regroup {E} front sum (Err e) = refl

-- so many polynomials were read, and what is still read gives the whole
pub record HaveCome {E : Type 0} (K : FieldOps E) (O : MonomialOrder) (last : ℕ) (f : List ℕ → Result (Polynomial E) TextKind) (count i : ℕ) (ls : List Line) (whole : Result (List (Polynomial E) × List Line) Fault) (ps : List (Polynomial E)) : Type 0 where
  pub sums : List (Polynomial E)
  pub is : with_sums sums (several last f (count - i) ls) ≡ whole
  pub same : AreSums K O sums ps
  pub generators : AreCanonicalGenerators K O ps
  pub many : length ps ≡ i

module _ {E : Type 0} (K : FieldOps E) (O : MonomialOrder) (last : ℕ) (f : List ℕ → Result (Polynomial E) TextKind) (count : ℕ) where
  none_before : (read : Result (List (Polynomial E) × List Line) Fault) → with_sums [] read ≡ read
  none_before (Ok x) = refl
  none_before (Err e) = refl

  pub come_first : (ls : List Line) → HaveCome K O last f count 0 ls (several last f count ls) []
  come_first ls = record { sums = []; is = (let all : count - 0 ≡ count = omega arith in rw all (none_before (several last f count ls))); same = tt; generators = tt; many = refl }

  pub come_next : (i : ℕ) (ls rest : List Line) (whole : Result (List (Polynomial E) × List Line) Fault) (ps : List (Polynomial E)) (p : Polynomial E)
      → i < count → HaveCome K O last f count i ls whole ps → IsSumIn K O (λ sum. next last f ls ≡ Ok (sum, rest)) p → HaveCome K O last f count (i + 1) rest whole (ps ++ p ∷ [])
  unfolding several
  come_next i ls rest whole ps p lt h s =
      let k : count - i ≡ suc (count - (i + 1)) = omega arith in
      record {
        sums = h.sums ++ s.sum ∷ [];
        is = sym (regroup h.sums s.sum (several last f (count - (i + 1)) rest)) ∙ (rw (k, s.is) at h.is);
        same = sums_push K O h.sums ps s.sum p h.same (s.same, s.generator.canonical, tt);
        generators = generators_push K O ps p h.generators s.generator;
        many = omega (arith, length-append ps (p ∷ []), h.many);
      }

  pub come_stop : (i : ℕ) (ls : List Line) (whole : Result (List (Polynomial E) × List Line) Fault) (ps : List (Polynomial E)) (e : TextFault)
      → i < count → HaveCome K O last f count i ls whole ps → IsFaultOf (next last f ls) e → IsFaultOf whole e
  unfolding several
  come_stop i ls whole ps e lt h s =
      let k : count - i ≡ suc (count - (i + 1)) = omega arith in
      subst (λ (r : Result (List (Polynomial E) × List Line) Fault). IsFaultOf r e) h.is (rw k (fault_passes _ (λ x. Ok (h.sums ++ x.0, x.1)) e (fault_passes (next last f ls) _ e s)))

  pub come_all : (i : ℕ) (ls : List Line) (whole : Result (List (Polynomial E) × List Line) Fault) (ps : List (Polynomial E))
      → count ≤ i → i ≤ count_max → HaveCome K O last f count i ls whole ps → AreSumsIn K O (λ sums. whole ≡ Ok (sums, ls)) ps
  unfolding several
  come_all i ls whole ps le few h =
      let k : count - i ≡ 0 = omega arith in
      record { sums = h.sums; is = sym (rw k at h.is) ∙ ap (λ (l : List (Polynomial E)). Ok (l, ls)) (append-nil h.sums); same = h.same; canonical = record { each = h.generators; few = omega (arith, h.many, few) } }
