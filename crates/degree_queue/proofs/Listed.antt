-- The nodes of all lists, and what a change of one list makes of them.
use Rattle.std.proofs.Common.{◌≡◌, ◌≢◌, ℕ, zero, suc, ◌+◌, ◌<◌, ◌≤◌, List, [], ◌∷◌, ◌++◌, length, get_or, set, map, replicate, refl, sym, ap, ◌∙◌, arith}
use Rattle.std.specs.List.{flat_map}
use Rattle.degree_queue.specs.Links.{times}
use Rattle.degree_queue.proofs.Counting.{times-append}

module _ {E X : Type 0} (no : E) where
  -- functions that agree at each member of a list
  pub map_same : (f g : E → X) (es : List E) → ((c : ℕ) → f (get_or es c no) ≡ g (get_or es c no)) → map f es ≡ map g es
  map_same f g [] same = refl
  map_same f g (e ∷ es) same = ap (λ (x : X). x ∷ map f es) (same 0) ∙ ap (λ (xs : List X). g e ∷ xs) (map_same f g es (λ c. same (suc c)))

  pub get_or-map_no : (f : E → X) (x : X) (es : List E) (c : ℕ) → f no ≡ x → get_or (map f es) c x ≡ f (get_or es c no)
  get_or-map_no f x [] c none = sym none
  get_or-map_no f x (e ∷ es) zero none = refl
  get_or-map_no f x (e ∷ es) (suc c) none = get_or-map_no f x es c none

module _ {E : Type 0} (no : E) where
  pub flat_map_same : (f g : E → List ℕ) (es : List E) → ((c : ℕ) → f (get_or es c no) ≡ g (get_or es c no)) → flat_map f es ≡ flat_map g es
  flat_map_same f g [] same = refl
  flat_map_same f g (e ∷ es) same = ap (λ (x : List ℕ). x ++ flat_map f es) (same 0) ∙ ap (λ (xs : List ℕ). g e ++ xs) (flat_map_same f g es (λ c. same (suc c)))

  pub flat_map-empty : (f : E → List ℕ) (es : List E) (n : ℕ) → f no ≡ [] → flat_map f (es ++ replicate n no) ≡ flat_map f es
  flat_map-empty f [] zero none = refl
  flat_map-empty f [] (suc n) none = ap (λ (x : List ℕ). x ++ flat_map f (replicate n no)) none ∙ flat_map-empty f [] n none
  flat_map-empty f (e ∷ es) n none = ap (λ (x : List ℕ). f e ++ x) (flat_map-empty f es n none)

  pub get_or-more_empty : (es : List E) (n c : ℕ) → get_or (es ++ replicate n no) c no ≡ get_or es c no
  get_or-more_empty [] zero c = refl
  get_or-more_empty [] (suc n) zero = refl
  get_or-more_empty [] (suc n) (suc c) = get_or-more_empty [] n c
  get_or-more_empty (e ∷ es) n zero = refl
  get_or-more_empty (e ∷ es) n (suc c) = get_or-more_empty es n c

  module _ (i : ℕ) (f : E → List ℕ) (none : f no ≡ []) where
    -- one list's part
    pub times_one : (es : List E) (c : ℕ) → times i (f (get_or es c no)) ≤ times i (flat_map f es)
    times_one [] c = rw none (omega arith)
    times_one (e ∷ es) zero = omega (arith, times-append i (f e) (flat_map f es))
    times_one (e ∷ es) (suc c) = omega (arith, times-append i (f e) (flat_map f es), times_one es c)

    -- the part of two lists
    pub times_two : (es : List E) (c d : ℕ) → c ≢ d → times i (f (get_or es c no)) + times i (f (get_or es d no)) ≤ times i (flat_map f es)
    times_two [] c d differ = rw none (omega arith)
    times_two (e ∷ es) zero zero differ = absurd (differ refl)
    times_two (e ∷ es) zero (suc d) differ = omega (arith, times-append i (f e) (flat_map f es), times_one es d)
    times_two (e ∷ es) (suc c) zero differ = omega (arith, times-append i (f e) (flat_map f es), times_one es c)
    times_two (e ∷ es) (suc c) (suc d) differ = omega (arith, times-append i (f e) (flat_map f es), times_two es c d (λ same. differ (ap suc same)))

  -- one list instead of another
  pub times-set : (i : ℕ) (f g : E → List ℕ) (es : List E) (d : ℕ) (x : E) → d < length es → ((c : ℕ) → c ≢ d → g (get_or es c no) ≡ f (get_or es c no)) → times i (flat_map g (set es d x)) + times i (f (get_or es d no)) ≡ times i (flat_map f es) + times i (g x)
  times-set i f g [] d x inside same = absurd (omega arith)
  times-set i f g (e ∷ es) zero x inside same =
      let rest : flat_map g es ≡ flat_map f es = flat_map_same g f es (λ c. same (suc c) (λ wrong. omega arith)) in
      omega (arith, times-append i (g x) (flat_map g es), times-append i (f e) (flat_map f es), ap (times i) rest)
  times-set i f g (e ∷ es) (suc d) x inside same =
      omega (arith, times-append i (g e) (flat_map g (set es d x)), times-append i (f e) (flat_map f es), ap (times i) (same 0 (λ wrong. omega arith)), times-set i f g es d x (omega arith) (λ c other. same (suc c) (λ equal. other (omega arith))))
