-- What is made of the next line.
use Rattle.std.proofs.Common.{◌≡◌, ℕ, List, [], ◌∷◌, ◌++◌, Result, Ok, Err, refl, ap}
use Rattle.word_field.specs.Field.{FieldOps}
use Rattle.monomial_order.specs.MonomialOrder.{MonomialOrder}
use Rattle.polynomials.specs.Polynomial.{Polynomial}
use Rattle.polynomial_text.specs.declared.line_fault.LineFault.{LineFault}
use Rattle.polynomial_text.specs.declared.line_fault.LineFault.TheVariants as line_faults
use Rattle.presentation_text.specs.declared.text_fault.TextFault.{TextFault}
use Rattle.presentation_text.specs.declared.text_fault.TextFault.TheVariants as faults
use Rattle.presentation_text.specs.declared.text_kind.TextKind.{TextKind}
use Rattle.presentation_text.specs.declared.text_kind.TextKind.TheVariants.{Truncated}
use Rattle.polynomial_text.specs.Results.{◌>>=◌}
use Rattle.presentation_text.specs.Kinds.{Fault}
use Rattle.presentation_text.specs.Reading.{Line, at_line, next}
use Rattle.polynomial_text.specs.Canonical.{IsLineFaultOf}
use Rattle.presentation_text.specs.Meaning.{AreSums, IsFaultOf}
use Rattle.polynomial_text.specs.LineReading.{Gives as LineGives}
use Rattle.presentation_text.specs.Giving.{Gives, fault_at, located}

module _ {E : Type 0} (K : FieldOps E) (O : MonomialOrder) where
  pub sums_push : (sums ps : List (Polynomial E)) (sum p : Polynomial E) → AreSums K O sums ps → AreSums K O (sum ∷ []) (p ∷ []) → AreSums K O (sums ++ sum ∷ []) (ps ++ p ∷ [])
  sums_push [] [] sum p h k = k
  sums_push [] (q ∷ ps) sum p h k = absurd h
  sums_push (s ∷ sums) [] sum p h k = absurd h
  sums_push (s ∷ sums) (q ∷ ps) sum p h k = (h.0, h.1, sums_push sums ps sum p h.2 k)

-- the fault of a step is that of the steps that begin with it
pub fault_passes : {A B : Type 0} (r : Result A Fault) (f : A → Result B Fault) (e : TextFault) → IsFaultOf r e → IsFaultOf (r >>= f) e
fault_passes r f faults.Memory k = tt
fault_passes r f (faults.At kind line) k = rw k refl

module _ {Y : Type 0} (f : List ℕ → Result Y TextKind) where
  pub at_ok : (number : ℕ) (bytes : List ℕ) (y : Y) → f bytes ≡ Ok y → at_line f (number, bytes) ≡ Ok y
  unfolding at_line
  at_ok number bytes y e = rw e refl

  pub at_err : (number : ℕ) (bytes : List ℕ) (e : LineFault TextKind) → IsLineFaultOf (f bytes) e → IsFaultOf (at_line f (number, bytes)) (fault_at number e)
  unfolding at_line
  at_err number bytes line_faults.Memory h = tt
  at_err number bytes (line_faults.Kind kind) h = rw h refl

  pub next_ok : (last number : ℕ) (bytes : List ℕ) (ls rest : List Line) (y : Y) → ls ≡ (number, bytes) ∷ rest → f bytes ≡ Ok y → next last f ls ≡ Ok (y, rest)
  unfolding next
  next_ok last number bytes ls rest y split e = rw (split, at_ok number bytes y e) refl

  pub next_err : (last number : ℕ) (bytes : List ℕ) (ls rest : List Line) (e : LineFault TextKind) → ls ≡ (number, bytes) ∷ rest → IsLineFaultOf (f bytes) e → IsFaultOf (next last f ls) (fault_at number e)
  unfolding next
  next_err last number bytes ls rest e split h = rw split (fault_passes (at_line f (number, bytes)) (λ a. Ok (a, rest)) (fault_at number e) (at_err number bytes e h))

  pub next_none : (last : ℕ) (ls : List Line) (e : TextFault) → ls ≡ [] → e ≡ faults.At Truncated last → IsFaultOf (next last f ls) e
  unfolding next
  next_none last ls e none is = rw (none, is) refl

  pub next_gives : {X : Type 0} (view : X → Y) (last number : ℕ) (bytes : List ℕ) (ls rest : List Line) (r : Result X (LineFault TextKind)) (s : Result X TextFault)
      → ls ≡ (number, bytes) ∷ rest → LineGives view r (f bytes) → s ≡ located number r → Gives (λ x. (view x, rest)) s (next last f ls)
  next_gives view last number bytes ls rest (Ok x) s split h is = rw is (next_ok last number bytes ls rest (view x) split h)
  next_gives view last number bytes ls rest (Err e) s split h is = rw is (next_err last number bytes ls rest e split h)

  at_was : (line : Line) (r : Result Y TextKind) (y : Y) → f line.1 ≡ r → at_line f line ≡ Ok y → r ≡ Ok y
  at_was line (Ok a) y is h = let found : at_line f line ≡ Ok a = at_ok line.0 line.1 a is in let in_both : a ≡ y = cc in ap (λ (z : Y). Ok z) in_both
  at_was line (Err k) y is h = let failed : at_line f line ≡ Err (k, line.0) = at_err line.0 line.1 (line_faults.Kind k) is in absurd cc

  bound_was : (rest : List Line) (x : Y × List Line) (r : Result Y Fault) → (r >>= λ a. Ok (a, rest)) ≡ Ok x → r ≡ Ok x.0
  bound_was rest x (Ok a) h = cc
  bound_was rest x (Err k) h = absurd cc

  -- what was made of the next line was made of some line
  pub next_was : (last : ℕ) (ls : List Line) (x : Y × List Line) → next last f ls ≡ Ok x → (bytes : List ℕ) × (f bytes ≡ Ok x.0)
  unfolding next
  next_was last [] x e = absurd cc
  next_was last (line ∷ rest) x e = (line.1, at_was line (f line.1) x.0 refl (bound_was rest x (at_line f line) e))
