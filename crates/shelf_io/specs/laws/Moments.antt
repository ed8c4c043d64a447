-- Moments, and what a call adds to what a stop may find.
use Rattle.std.proofs.Common.{◌≡◌, ◌≤◌, ℕ, List, Option, Some, None, refl, subst, ◌∙◌, inl, Bool, cond, false, true, arith}
use Rattle.std.specs.FinMap as map
use Rattle.std.specs.FinMap.{get-insert, slice_cmp-IsAntisymmetric, nat_cmp-IsAntisymmetric}
use Rattle.std.specs.Ordering.{nat_cmp, is_eq, eq_by_cmp}
use Rattle.std.specs.Cmp.Lexicographic.{slice_cmp, nat_list_cmp_total}
use Rattle.std.specs.declared.cmp.Ordering.{Ordering}
use Rattle.std.specs.declared.cmp.Ordering.TheVariants.{Less, Equal, Greater}
use Rattle.shelf_io.specs.Shelf.{Files, SameElsewhere}
use Rattle.shelf_io.specs.Moments.{IsLater, Adds}

pub later_same : (moment : Option ℕ) → IsLater moment moment
later_same None = tt
later_same (Some now) = omega arith

pub later_then : (a b c : Option ℕ) → IsLater a b → IsLater b c → IsLater a c
later_then None None None p q = tt
later_then (Some x) (Some y) (Some z) p q = omega (arith, p, q)
later_then None None (Some z) p q = absurd q
later_then None (Some y) c p q = absurd p
later_then (Some x) None c p q = absurd p
later_then (Some x) (Some y) None p q = absurd q

-- a known moment stays known
pub known_later : (old new : Option ℕ) (start : ℕ) → IsLater old new → old ≡ Some start
    → (now : ℕ) × (new ≡ Some now) × (start ≤ now)
known_later None new start p e = absurd cc
known_later (Some x) None start p e = absurd p
known_later (Some x) (Some y) start p e =
    let same : x ≡ start = cc in
    (y, refl, subst (λ n. n ≤ y) same p)

-- an unknown moment is none
pub not_known : {A B : Type 0} {x : A} → None ≡ Some x → B
not_known e = absurd cc

-- a call that adds nothing
pub adds_none : (moment : Option ℕ) (found : ℕ → Files → Type 0) (P : Files → Type 0) → Adds moment found found P
adds_none moment found P = record { only = λ start m f e le h. inl h; all = λ start m f e le h. h }

equal_of_is_eq : (o : Ordering) → is_eq o ≡ true → o ≡ Equal
equal_of_is_eq Less e = absurd cc
equal_of_is_eq Equal e = refl
equal_of_is_eq Greater e = absurd cc

decided_elsewhere : (b : Bool) (x y : Option (List ℕ)) → (b ≡ true → ⊥) → cond b x y ≡ y
decided_elsewhere true x y h = absurd (h refl)
decided_elsewhere false x y h = refl

-- to insert a name leaves the others as they are
pub insert_elsewhere : (files : Files) (name bytes : List ℕ) → SameElsewhere name files (map.insert files name bytes)
insert_elsewhere files name bytes other not =
    get-insert nat_list_cmp_total files name bytes other
    ∙ decided_elsewhere (eq_by_cmp (slice_cmp nat_cmp) other name) (Some bytes) (map.get files other)
    (λ e. not (slice_cmp-IsAntisymmetric nat_cmp-IsAntisymmetric other name (equal_of_is_eq (slice_cmp nat_cmp other name) e)))
