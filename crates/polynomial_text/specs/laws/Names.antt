-- Names of places: which place has a name, the bytes of names, and lists of different names.
use Rattle.std.proofs.Common.{◌≡◌, ℕ, zero, suc, ◌<◌, ◌≤◌, Bool, true, false, cond, List, [], ◌∷◌, Option, Some, None, refl, sym, ap, subst, ◌∙◌, ⊎_elim, arith}
use Rattle.std.specs.Prelude.{slice_get, IfSome, IsSome}
use Rattle.std.specs.List.{list_all, AllByRecursion, IsDistinct}
use Rattle.std.specs.Str.{bytes_eq, IsAscii, IsUtf8}
use Rattle.std.proofs.lemmas.Bool.{and_parts, and_from, cases_eq, true≢false}
use Rattle.std.proofs.lemmas.Bool.Decides.{nat_tests}
use Rattle.std.proofs.lemmas.List.Elements.{recursion_from_All}
use Rattle.std.proofs.lemmas.Slice.Eq.{bytes_eq-Decides}
use Rattle.std.proofs.lemmas.Str.{IsUtf8-from_ascii}
use Rattle.poly_core.specs.Names.{name_at, is_letter, is_name_byte, has_name_form, IsName, AreNames}
use Rattle.poly_core.specs.declared.place_names.Names.{Names}
use Rattle.poly_core.specs.declared.place_names.Names.TheVariants.{Listed, Numbered, Paired}
use Rattle.polynomial_text.specs.Canonical.{AreDifferent}
use Rattle.polynomial_text.specs.PolyLine.{place_of, is_named}

-- ---- the place of a name

pub named_is : (found : Option (List ℕ)) (word : List ℕ) → is_named found word ≡ true → found ≡ Some word
named_is None word h = absurd cc
named_is (Some name) word h = ap Some ((bytes_eq-Decides name word).0 h)

pub named_itself : (word : List ℕ) → is_named (Some word) word ≡ true
named_itself word = (bytes_eq-Decides word word).1 refl

pub is_some : (found : Option (List ℕ)) (word : List ℕ) → found ≡ Some word → IsSome found
is_some found word e = rw e refl

-- the place that is found has the name; if none is found, none of the first n has it
abbrev pub IsPlaceResult : Names → ℕ → List ℕ → Option ℕ → Type 0
IsPlaceResult names n word (Some i) = (i < n) × (name_at names i ≡ Some word)
IsPlaceResult names n word None = (i : ℕ) → i < n → name_at names i ≡ Some word → ⊥

pub place_result : (names : Names) (n : ℕ) (word : List ℕ) → IsPlaceResult names n word (place_of names n word)
unfolding place_of
place_result names zero word = λ i lt at. omega arith
place_result names (suc n) word = here (is_named (name_at names n) word) refl (place_of names n word) (place_result names n word)
  where
    here : (t : Bool) → is_named (name_at names n) word ≡ t → (r : Option ℕ) → IsPlaceResult names n word r → IsPlaceResult names (suc n) word (cond t (Some n) r)
    here true t r h = (omega arith, named_is (name_at names n) word t)
    here false t (Some i) h = (omega (arith, h.0), h.1)
    here false t None h = λ i lt at. ⊎_elim
        (λ same. let found : name_at names n ≡ Some word = ap (name_at names) (sym same) ∙ at in let named : is_named (name_at names n) word ≡ true = rw found (named_itself word) in true≢false (sym named ∙ t))
        (λ other. h i (omega arith) at) (cases_eq i n)

module _ (places : ℕ) (names : Names) (D : AreDifferent places names) where
  -- among the first n places
  pub place_found : (n i : ℕ) (name : List ℕ) → i < n → n ≤ places → name_at names i ≡ Some name → place_of names n name ≡ Some i
  place_found n i name lt le at = by (place_of names n name) (place_result names n name)
    where
      by : (r : Option ℕ) → IsPlaceResult names n name r → r ≡ Some i
      by None never = absurd (never i lt at)
      by (Some j) h = ap Some (D.differ j i (omega (arith, h.0)) (omega arith) (is_some (name_at names j) name h.1) (h.1 ∙ sym at))

-- a place that is found is one of the first n
pub place_below : (n : ℕ) (names : Names) (word : List ℕ) (i : ℕ) → Some i ≡ place_of names n word → i < n
place_below n names word i e = (subst (IsPlaceResult names n word) (sym e) (place_result names n word)).0

-- ---- the bytes of names

pub letter_in_name : (b : ℕ) → is_letter b ≡ true → is_name_byte b ≡ true
letter_in_name b h = rw h refl

pub name_bytes : (name : List ℕ) → has_name_form name ≡ true → list_all is_name_byte name ≡ true
name_bytes [] h = absurd cc
name_bytes (b ∷ bytes) h =
    let a = and_parts (is_letter b) (list_all is_name_byte bytes) h in
    and_from (is_name_byte b) (list_all is_name_byte bytes) (letter_in_name b a.0) a.1

bytes_ascii : (bytes : List ℕ) → list_all is_name_byte bytes ≡ true → IsAscii bytes
bytes_ascii [] all i = omega arith
bytes_ascii (b ∷ bytes) all zero = low b (and_parts (is_name_byte b) (list_all is_name_byte bytes) all).0
  where
    low : (b : ℕ) → is_name_byte b ≡ true → b < 128
    low b e = grind (arith, nat_tests)
bytes_ascii (b ∷ bytes) all (suc i) = bytes_ascii bytes (and_parts (is_name_byte b) (list_all is_name_byte bytes) all).1 i

pub name_is_text : (name : List ℕ) → has_name_form name ≡ true → IsUtf8 name
name_is_text name form = IsUtf8-from_ascii name (bytes_ascii name (name_bytes name form))

-- ---- lists of different names

not_there : (name : List ℕ) (names : List (List ℕ)) (j : ℕ) → AllByRecursion (λ y. bytes_eq name y ≡ false) names → slice_get names j ≡ Some name → ⊥
not_there name [] j h e = absurd cc
not_there name (n ∷ names) zero h e =
    let same : n ≡ name = cc in
    let equal : bytes_eq name n ≡ true = (bytes_eq-Decides name n).1 (sym same) in
    let differs = h.0 in
    absurd cc
not_there name (n ∷ names) (suc j) h e = not_there name names j h.1 e

pub one_index : (names : List (List ℕ)) (i j : ℕ) → IsDistinct bytes_eq names → IsSome (slice_get names i) → slice_get names i ≡ slice_get names j → i ≡ j
unfolding IsDistinct
one_index [] i j d some e = absurd cc
one_index (n ∷ names) zero zero d some e = refl
one_index (n ∷ names) zero (suc j) d some e = absurd (not_there n names j d.0 (sym e))
one_index (n ∷ names) (suc i) zero d some e = absurd (not_there n names i d.0 e)
one_index (n ∷ names) (suc i) (suc j) d some e = ap suc (one_index names i j d.1 some e)

form_at : (names : List (List ℕ)) (i : ℕ) → AllByRecursion IsName names → IfSome (slice_get names i) (λ name. has_name_form name ≡ true)
form_at [] i h = tt
form_at (n ∷ names) zero h = h.0.form
form_at (n ∷ names) (suc i) h = form_at names i h.1

pub names_differ : (places : ℕ) (names : Names) → AreNames places names → AreDifferent places names
names_differ places (Listed table) h = record {
  form = λ i lt. form_at table i (recursion_from_All IsName table h.each);
  differ = λ i j lt gt some e. one_index table i j h.distinct some e;
}
names_differ places (Numbered prefix skip) h = absurd h
names_differ places (Paired first count second) h = absurd h
