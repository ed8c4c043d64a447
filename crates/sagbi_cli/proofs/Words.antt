-- The words of commands, one by one.
use Rattle.std.proofs.Common.{◌≡◌, ℕ, eqb, Bor, false, List, [], ◌∷◌, ◌<◌, length, Option, Some, None, sym, ap, ◌∙◌, arith}
use Rattle.std.specs.Prelude.{slice_get, codes, IfNone}
use Rattle.std.specs.Fmt.{decimal}
use Rattle.completion.specs.declared.pick.Pick.{Pick}
use Rattle.completion.specs.declared.pick.Pick.TheVariants.{First, Last}
use Rattle.sagbi_cli.specs.Command.{AreNameAndBound, IsCommand, IsNoCommand, IsPicked}
use Rattle.sagbi_cli.specs.declared.command.Command.TheVariants.{Complete, Ask, Relations, Trial}

pub two : (ws : List (List ℕ)) (a b : List ℕ) → length ws ≡ 2 → slice_get ws 0 ≡ Some a → slice_get ws 1 ≡ Some b → ws ≡ a ∷ b ∷ []
two [] a b len x y = absurd cc
two (p ∷ []) a b len x y = absurd cc
two (p ∷ q ∷ []) a b len x y = cc
two (p ∷ q ∷ r ∷ ws) a b len x y = absurd (omega arith)

pub three : (ws : List (List ℕ)) (a b d : List ℕ) → length ws ≡ 3 → slice_get ws 0 ≡ Some a → slice_get ws 1 ≡ Some b → slice_get ws 2 ≡ Some d → ws ≡ a ∷ b ∷ d ∷ []
three [] a b d len x y z = absurd cc
three (p ∷ []) a b d len x y z = absurd cc
three (p ∷ q ∷ []) a b d len x y z = absurd cc
three (p ∷ q ∷ r ∷ []) a b d len x y z = cc
three (p ∷ q ∷ r ∷ s ∷ ws) a b d len x y z = absurd (omega arith)

pub four : (ws : List (List ℕ)) (a b d e : List ℕ) → length ws ≡ 4 → slice_get ws 0 ≡ Some a → slice_get ws 1 ≡ Some b → slice_get ws 2 ≡ Some d →
    slice_get ws 3 ≡ Some e → ws ≡ a ∷ b ∷ d ∷ e ∷ []
four [] a b d e len x y z w = absurd cc
four (p ∷ []) a b d e len x y z w = absurd cc
four (p ∷ q ∷ []) a b d e len x y z w = absurd cc
four (p ∷ q ∷ r ∷ []) a b d e len x y z w = absurd cc
four (p ∷ q ∷ r ∷ s ∷ []) a b d e len x y z w = cc
four (p ∷ q ∷ r ∷ s ∷ t ∷ ws) a b d e len x y z w = absurd (omega arith)

pub filled : (w : List ℕ) → eqb (length w) 0 ≡ false → 0 < length w
filled [] e = absurd cc
filled (b ∷ w) e = omega arith

pub if_none : {T : Type 0} (r : Option T) (A : Type 0) → A → IfNone r A
if_none None A a = a
if_none (Some x) A a = tt

-- the word is the first one
first_is : (ws vs : List (List ℕ)) (a b : List ℕ) → slice_get ws 0 ≡ Some a → ws ≡ b ∷ vs → Some b ≡ Some a
first_is ws vs a b x e = sym (ap (λ (us : List (List ℕ)). slice_get us 0) e) ∙ x

-- words that begin with `complete` are no command if they say of no candidate that it is taken
pub no_pick : (words : List (List ℕ)) → slice_get words 0 ≡ Some (codes "complete") → ((pick : Pick) → IsPicked words pick → ⊥) → IsNoCommand words
no_pick words x none (Complete pres bound First) h = none First (ap (λ (us : List (List ℕ)). length us) h.0)
no_pick words x none (Complete pres bound Last) h =
    none Last (ap (λ (us : List (List ℕ)). length us) h.0, ap (λ (us : List (List ℕ)). slice_get us 3) h.0)
no_pick words x none (Ask pres bound queries) h = let e = first_is words _ (codes "complete") (codes "ask") x h.0 in absurd cc
no_pick words x none (Relations pres bound) h = let e = first_is words _ (codes "complete") (codes "relations") x h.0 in absurd cc
no_pick words x none (Trial number) h = let e = first_is words _ (codes "complete") (codes "trial") x h.0 in absurd cc

-- the words are those of `complete`
pub are_complete : (words : List (List ℕ)) (pick : Pick) (pres : Bor (List ℕ)) (bound : ℕ) → slice_get words 0 ≡ Some (codes "complete") → IsPicked words pick →
    AreNameAndBound pres.now bound → slice_get words 1 ≡ Some pres.now → slice_get words 2 ≡ Some (decimal bound) → IsCommand words (Complete pres bound pick)
are_complete words First pres bound x p named y z = (three words _ _ _ p x y z, named)
are_complete words Last pres bound x p named y z = (four words _ _ _ _ p.0 x y z p.1, named)
