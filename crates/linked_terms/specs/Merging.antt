-- The steps of adding a term to a list with a cursor.
use Rattle.std.specs.Prelude.{◌≡◌, ◌≢◌, ◌+◌, ◌≤◌, ◌⊎◌, [], ◌∷◌, ◌++◌, length, Bool, true, false}
use Rattle.std.specs.declared.cmp.Ordering.TheVariants.{Less}
use Rattle.word_field.specs.Field.{FieldOps}
use Rattle.monomial_order.specs.declared.terms.Term.{Term}
use Rattle.monomial_order.specs.Monomial.{Exponents}
use Rattle.monomial_order.specs.MonomialOrder.{MonomialOrder}
use Rattle.polynomials.specs.Polynomial.{Polynomial, term_of, AllAt, IsCanonical, Same}
use Rattle.linked_terms.specs.Cursor.{Cursor}

module _ {E : Type 0} (O : MonomialOrder) where
  -- each term of p is at a greater monomial than m
  abbrev pub IsAbove : Exponents → Polynomial E → Type 0
  IsAbove m p = AllAt (λ k. O.compare m k ≡ Less) p

  -- the first term of p, if there is one, is at m if it was found, and at a smaller monomial if not
  abbrev pub NextIs : Exponents → Bool → Polynomial E → Type 0
  NextIs m found [] = found ≡ false
  NextIs m true (t ∷ p) = t.at ≡ m
  NextIs m false (t ∷ p) = O.compare t.at m ≡ Less

  -- the cursor went past terms that are greater than m
  pub record HasPassed (m : Exponents) (old new : Cursor (Term E)) : Type 0 where
    pub passed : Polynomial E
    pub left : new.before ≡ old.before ++ passed
    pub right : old.after ≡ passed ++ new.after
    pub spare : new.spare ≡ old.spare
    pub above : IsAbove m passed

  -- it went past all of them, and `found` says whether the next term is at m
  pub record IsSought (m : Exponents) (found : Bool) (old new : Cursor (Term E)) : Type 0 where
    pub walk : HasPassed m old new
    pub next : NextIs m found new.after

module _ {E : Type 0} (K : FieldOps E) where
  -- the next term is the sum, before the cursor, or gone if the sum is zero
  abbrev pub IsCombined : E → Term E → Polynomial E → Cursor (Term E) → Cursor (Term E) → Type 0
  IsCombined by next rest old new =
      ((K.plus next.by by ≡ K.zero) × (new ≡ record { before = old.before; after = rest; spare = old.spare + 1 }))
      ⊎ ((K.plus next.by by ≢ K.zero) × (new ≡ record {
        before = old.before ++ term_of next.at (K.plus next.by by) ∷ [];
        after = rest;
        spare = old.spare;
      }))

  -- The term was added. What is less than it is less than all terms before the cursor.
  pub record IsAdded (O : MonomialOrder) (term : Term E) (old new : Cursor (Term E)) : Type 0 where
    pub canonical : IsCanonical K O (new.before ++ new.after)
    pub sum : Same K (new.before ++ new.after) ((old.before ++ old.after) ++ term ∷ [])
    pub above : (m : Exponents) → O.compare m term.at ≡ Less → IsAbove O m new.before
    pub count : (length new.before + length new.after) + new.spare ≡ (length old.before + length old.after) + old.spare
    pub room : old.spare ≤ new.spare + 1
