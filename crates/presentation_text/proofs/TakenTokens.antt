-- Taking tokens one by one gives what the definition of a line says.
use Rattle.std.proofs.Common.{◌≡◌, ℕ, suc, ◌+◌, ◌-◌, ◌<◌, ◌≤◌, true, false, eqb, List, [], ◌∷◌, ◌++◌, length, Option, Some, None, Ok, Err, refl, sym, ap, ◌∙◌, append_assoc, arith, leb, ◌&&◌, subst, Bool, cond}
use Rattle.std.proofs.lemmas.Bool.{and_parts, leb-true}
use Rattle.std.proofs.lemmas.List.{append-nil}
use Rattle.monomial_order.specs.declared.tie_break.Tie.{Tie}
use Rattle.presentation_text.specs.Numbers.{number_of, number_within}
use Rattle.presentation_text.specs.Heading.{◌>>=◌, number_first, numbers_first, row_at, rows_of, tie_alone}
use Rattle.polynomial_text.specs.Canonical.{IsLineFaultOf}
use Rattle.presentation_text.specs.Kinds.{or_fault}
use Rattle.polynomial_text.specs.declared.line_fault.LineFault.{LineFault}
use Rattle.polynomial_text.specs.declared.line_fault.LineFault.TheVariants as line_faults
use Rattle.presentation_text.specs.declared.text_kind.TextKind.{TextKind}
use Rattle.presentation_text.specs.declared.text_kind.TextKind.TheVariants.{OrderLine}
use Rattle.presentation_text.specs.Taking.{with_front}

regroup : {A B : Type 0} (front : List A) (x : A) (read : Option (List A × B)) → with_front front (read >>= λ y. Some (x ∷ y.0, y.1)) ≡ with_front (front ++ x ∷ []) read
regroup front x (Some y) = ap (λ l. Some (l, y.1)) (sym (append_assoc front (x ∷ []) y.0))
regroup front x None = refl

pub bind_some : {A B : Type 0} (r : Option A) (f : A → Option B) (y : B) → (r >>= f) ≡ Some y → (x : A) × (r ≡ Some x) × (f x ≡ Some y)
bind_some (Some x) f y e = (x, refl, e)
bind_some None f y e = absurd cc

-- ---- faults

pub or_fault_ok : {A F : Type 0} (e : F) (r : Option A) (x : A) → or_fault e r ≡ Ok x → r ≡ Some x
or_fault_ok e None x h = absurd cc
or_fault_ok e (Some y) x h = cc

or_fault_none : {A F : Type 0} (e : F) (r : Option A) (k : F) → or_fault e r ≡ Err k → r ≡ None
or_fault_none e None k h = refl
or_fault_none e (Some y) k h = absurd cc

or_fault_kind : {A F : Type 0} (e : F) (r : Option A) (k : F) → or_fault e r ≡ Err k → e ≡ k
or_fault_kind e None k h = cc
or_fault_kind e (Some y) k h = absurd cc

-- ---- numbers

pub number_between : (low high : ℕ) (token : List ℕ) (n : ℕ) → number_within low high token ≡ Some n → (low ≤ n) × (n ≤ high)
unfolding number_within
number_between low high token n e = by (number_of token) refl
  where
    small : (k : ℕ) (b : Bool) → (leb low k && leb k high) ≡ b → cond b (Some k) None ≡ Some n → (low ≤ n) × (n ≤ high)
    small k false t h = absurd cc
    small k true t h =
        let same : k ≡ n = cc in
        let parts = and_parts (leb low k) (leb k high) t in
        subst (λ (i : ℕ). (low ≤ i) × (i ≤ high)) same (leb-true _ _ parts.0, leb-true _ _ parts.1)

    by : (r : Option ℕ) → number_of token ≡ r → (low ≤ n) × (n ≤ high)
    by None is = let none : number_within low high token ≡ None = rw is refl in absurd cc
    by (Some k) is = let one : number_within low high token ≡ cond (leb low k && leb k high) (Some k) None = rw is refl in small k (leb low k && leb k high) refl (sym one ∙ e)

module _ (low high : ℕ) where
  pub numbers_next : (front : List ℕ) (count i : ℕ) (line rest : List (List ℕ)) (n : ℕ) (total : Option (List ℕ × List (List ℕ))) → i < count → number_first low high line ≡ Some (n, rest)
      → with_front front (numbers_first low high (count - i) line) ≡ total → with_front (front ++ n ∷ []) (numbers_first low high (count - (i + 1)) rest) ≡ total
  unfolding numbers_first
  numbers_next front count i line rest n total lt here so_far =
      let k : count - i ≡ suc (count - (i + 1)) = omega arith in
      sym (regroup front n (numbers_first low high (count - (i + 1)) rest)) ∙ (rw (k, here) at so_far)

  pub numbers_stop : (front : List ℕ) (count i : ℕ) (line : List (List ℕ)) (total : Option (List ℕ × List (List ℕ))) → i < count → number_first low high line ≡ None
      → with_front front (numbers_first low high (count - i) line) ≡ total → total ≡ None
  unfolding numbers_first
  numbers_stop front count i line total lt here so_far =
      let k : count - i ≡ suc (count - (i + 1)) = omega arith in
      sym (rw (k, here) at so_far)

  pub numbers_done : (front : List ℕ) (count i : ℕ) (line : List (List ℕ)) (total : Option (List ℕ × List (List ℕ))) → count ≤ i → with_front front (numbers_first low high (count - i) line) ≡ total → total ≡ Some (front, line)
  unfolding numbers_first
  numbers_done front count i line total le so_far =
      let k : count - i ≡ 0 = omega arith in
      sym (rw k at so_far) ∙ ap (λ (l : List ℕ). Some (l, line)) (append-nil front)

-- ---- the tie behind rows

module _ (n : ℕ) where
  pub rows_tie : (front : List (List ℕ)) (i : ℕ) (line : List (List ℕ)) (total : Option (List (List ℕ) × Tie)) → i < 4 → eqb (length line) 1 ≡ true
      → with_front front (rows_of n (4 - i) line) ≡ total → total ≡ with_front front (tie_alone line)
  unfolding rows_of
  rows_tie front i line total lt single so_far =
      let k : 4 - i ≡ suc (4 - (i + 1)) = omega arith in
      sym (rw (k, single) at so_far)

  pub rows_next : (front : List (List ℕ)) (i : ℕ) (line rest : List (List ℕ)) (row : List ℕ) (total : Option (List (List ℕ) × Tie)) → i < 4 → eqb (length line) 1 ≡ false → row_at n line ≡ Some (row, rest)
      → with_front front (rows_of n (4 - i) line) ≡ total → with_front (front ++ row ∷ []) (rows_of n (4 - (i + 1)) rest) ≡ total
  unfolding rows_of
  rows_next front i line rest row total lt more here so_far =
      let k : 4 - i ≡ suc (4 - (i + 1)) = omega arith in
      sym (regroup front row (rows_of n (4 - (i + 1)) rest)) ∙ (rw (k, more, here) at so_far)

  pub rows_stop : (front : List (List ℕ)) (i : ℕ) (line : List (List ℕ)) (total : Option (List (List ℕ) × Tie)) → i < 4 → eqb (length line) 1 ≡ false → row_at n line ≡ None
      → with_front front (rows_of n (4 - i) line) ≡ total → total ≡ None
  unfolding rows_of
  rows_stop front i line total lt more here so_far =
      let k : 4 - i ≡ suc (4 - (i + 1)) = omega arith in
      sym (rw (k, more, here) at so_far)

  pub rows_done : (front : List (List ℕ)) (i : ℕ) (line : List (List ℕ)) (total : Option (List (List ℕ) × Tie)) → 4 ≤ i → with_front front (rows_of n (4 - i) line) ≡ total → total ≡ with_front front (tie_alone line)
  unfolding rows_of
  rows_done front i line total le so_far =
      let k : 4 - i ≡ 0 = omega arith in
      sym (rw k at so_far)

  pub rows_fault : (e : LineFault TextKind) (front : List (List ℕ)) (i : ℕ) (line : List (List ℕ)) (total : Option (List (List ℕ) × Tie)) → i < 4 → eqb (length line) 1 ≡ false → IsLineFaultOf (or_fault OrderLine (row_at n line)) e
      → with_front front (rows_of n (4 - i) line) ≡ total → IsLineFaultOf (or_fault OrderLine total) e
  rows_fault line_faults.Memory front i line total lt more here so_far = tt
  rows_fault (line_faults.Kind kind) front i line total lt more here so_far =
      let row : row_at n line ≡ None = or_fault_none OrderLine (row_at n line) kind here in
      let kind_is : OrderLine ≡ kind = or_fault_kind OrderLine (row_at n line) kind here in
      rw (rows_stop front i line total lt more row so_far, kind_is) refl
