-- The relations of words with their right sides.
use Rattle.std.proofs.Common.{◌≡◌, ℕ, zero, suc, ◌+◌, ◌<◌, refl, sym, ◌∙◌, ap, subst, List, [], ◌∷◌, ◌++◌, length, take, get_or, ⊎_elim, arith}
use Rattle.std.specs.Prelude.{All, Contains, map, unwrap_or, is_some, IfSome, Option, Some, None, true, false}
use Rattle.monomial_order.specs.laws.Lists.{contains_cases, contains_none}
use Rattle.polynomials.specs.Polynomial.{Polynomial}
use Rattle.polynomials.specs.Subalgebra.{Presented}
use Rattle.completion.specs.declared.candidates.Found.{Found}
use Rattle.completion.specs.declared.relations.Relation.{Relation}
use Rattle.completion.specs.Closing.{relations_of, AreSides}
use Rattle.tete_lift.specs.Lifting.{IsRightSide}
use Rattle.subduction.specs.laws.Parts.{contains-All}

module _ {F E : Type 0} (P : Presented E) (S : List (Polynomial E)) where
  -- one more word with its side
  pub sides_append : (fs : List (Found F E)) (es : List (Polynomial E)) (f : Found F E) (e : Polynomial E) → AreSides P S fs es → IsRightSide P S f.word (unwrap_or f.right e) → AreSides P S (fs ++ f ∷ []) (es ++ e ∷ [])
  sides_append [] [] f e h k = (k, tt)
  sides_append [] (x ∷ es) f e h k = absurd h
  sides_append (g ∷ fs) [] f e h k = absurd h
  sides_append (g ∷ fs) (x ∷ es) f e h k = (h.0, sides_append fs es f e h.1 k)

  pub sides_length : (fs : List (Found F E)) (es : List (Polynomial E)) → AreSides P S fs es → length es ≡ length fs
  sides_length [] [] h = refl
  sides_length [] (x ∷ es) h = absurd h
  sides_length (g ∷ fs) [] h = absurd h
  sides_length (g ∷ fs) (x ∷ es) h = ap suc (sides_length fs es h.1)

  pub sides_words : (fs : List (Found F E)) (es : List (Polynomial E)) → AreSides P S fs es → map (λ (r : Relation F E). r.word) (relations_of fs es) ≡ map (λ (f : Found F E). f.word) fs
  sides_words [] es h = refl
  sides_words (g ∷ fs) [] h = absurd h
  sides_words (g ∷ fs) (x ∷ es) h = ap (λ ws. (let f : Found F E = g in f.word) ∷ ws) (sides_words fs es h.1)

  abbrev HasSide : Relation F E → Type 0
  HasSide r = IsRightSide P S r.word r.right

  each_side : (fs : List (Found F E)) (es : List (Polynomial E)) → AreSides P S fs es → (r : Relation F E) → Contains (relations_of fs es) r → HasSide r
  each_side [] es h r k = absurd (contains_none r k)
  each_side (g ∷ fs) [] h r k = absurd h
  each_side (g ∷ fs) (x ∷ es) h r k =
      ⊎_elim (λ q. subst HasSide q h.0) (each_side fs es h.1 r) (contains_cases (record { word = (let f : Found F E = g in f.word); right = unwrap_or (let f : Found F E = g in f.right) x }) (relations_of fs es) r k)

  pub sides_rights : (fs : List (Found F E)) (es : List (Polynomial E)) → AreSides P S fs es → All (λ (r : Relation F E). IsRightSide P S r.word r.right) (relations_of fs es)
  sides_rights fs es h = contains-All HasSide (relations_of fs es) (each_side fs es h)

-- a side that is kept, or made
pub side_kept : {A : Type 0} (Q : A → Type 0) (r : Option A) (e : A) → is_some r ≡ true → IfSome r Q → Q (unwrap_or r e)
side_kept Q None e n h = absurd cc
side_kept Q (Some x) e n h = h

pub side_made : {A : Type 0} (Q : A → Type 0) (r : Option A) (e : A) → is_some r ≡ false → Q e → Q (unwrap_or r e)
side_made Q None e n h = h
side_made Q (Some x) e n h = absurd cc

pub take_next : {A : Type 0} (xs : List A) (i : ℕ) (x : A) → i < length xs → x ≡ get_or xs i x → take (i + 1) xs ≡ take i xs ++ x ∷ []
take_next xs i x l e = ap (λ n. take n xs) (let z : i + 1 ≡ suc i = omega arith in z) ∙ next xs i x l e
  where
    next : {A : Type 0} (xs : List A) (i : ℕ) (x : A) → i < length xs → x ≡ get_or xs i x → take (suc i) xs ≡ take i xs ++ x ∷ []
    next [] i x l e = absurd (omega arith)
    next (y ∷ xs) zero x l e = ap (λ z. z ∷ []) (sym e)
    next (y ∷ xs) (suc i) x l e = ap (λ zs. y ∷ zs) (next xs i x (omega arith) e)
