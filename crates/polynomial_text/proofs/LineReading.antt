-- Reading one part after the other, as the loops do.
use Rattle.std.proofs.Common.{◌≡◌, ℕ, suc, List, [], ◌∷◌, Option, Some, None, Result, Ok, refl, sym, subst, length}
use Rattle.polynomial_text.specs.declared.line_fault.LineKind.{LineKind}
use Rattle.polynomial_text.specs.declared.line_fault.LineFault.{LineFault}
use Rattle.polynomial_text.specs.declared.line_fault.LineFault.TheVariants as faults
use Rattle.polynomial_text.specs.Canonical.{IsLineFaultOf}
use Rattle.polynomial_text.specs.Results.{◌>>=◌, along}

-- how many bytes are left, and one more if there is a part
abbrev pub left_len : Option (List ℕ) → ℕ
left_len None = 0
left_len (Some bytes) = suc (length bytes)

-- the fault of a step is that of the steps that begin with it
pub fault_passes : {A B : Type 0} (r : Result A LineKind) (f : A → Result B LineKind) (e : LineFault LineKind) → IsLineFaultOf r e → IsLineFaultOf (r >>= f) e
fault_passes r f faults.Memory h = tt
fault_passes r f (faults.Kind kind) h = rw h refl

module _ {S X : Type 0} (step : S → X → Result S LineKind) where
  pub along_next : (state next : S) (parts left : List X) (part : X) (total : Result S LineKind) → parts ≡ part ∷ left → step state part ≡ Ok next → along step state parts ≡ total → along step next left ≡ total
  unfolding along
  along_next state next parts left part total split here so_far = rw (split, here) at so_far

  pub along_stop : (state : S) (parts left : List X) (part : X) (total : Result S LineKind) (e : LineFault LineKind) → parts ≡ part ∷ left → IsLineFaultOf (step state part) e → along step state parts ≡ total → IsLineFaultOf total e
  unfolding along
  along_stop state parts left part total e split here so_far = subst (λ (r : Result S LineKind). IsLineFaultOf r e) so_far (rw split (fault_passes (step state part) _ e here))

  pub along_all : (state : S) (total : Result S LineKind) → along step state [] ≡ total → total ≡ Ok state
  unfolding along
  along_all state total so_far = sym so_far
