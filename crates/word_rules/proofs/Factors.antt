-- Words by their letters, one after the other.
use Rattle.std.proofs.Common.{◌≡◌, ◌≢◌, ℕ, zero, suc, ◌+◌, ◌≤◌, ◌<◌, refl, sym, ◌∙◌, ap, subst, List, [], ◌∷◌, ◌++◌, length, arith, get_or, take, ⊎_elim}
use Rattle.std.specs.Prelude.{Contains}
use Rattle.std.proofs.lemmas.List.{length-take}
use Rattle.monomial_order.specs.Monomial.{Exponents, exponent, Divides}
use Rattle.monomial_order.specs.laws.Comparing.{le_or_not, numbers_or_not}
use Rattle.monomial_order.specs.laws.Monomial.{exponent_past}
use Rattle.monomial_order.specs.laws.Lists.{contains_at, contains_cases, contains_map, contains_none}
use Rattle.word_rules.specs.declared.factor.Factor.{Factor}
use Rattle.word_rules.specs.Factors.{factors_from, factors_of}
use Rattle.word_rules.proofs.LetterLists.{factor_of, letters_are}

-- the exponent of a place in a power of one letter
abbrev pub at : ℕ → ℕ → ℕ → ℕ
at zero e zero = e
at zero e (suc p) = 0
at (suc a) e zero = 0
at (suc a) e (suc p) = at a e p

-- the exponent of a place in the product of these powers
abbrev pub exponent_of : List Factor → ℕ → ℕ
exponent_of [] p = 0
exponent_of (f ∷ fs) p = at f.letter f.exponent p + exponent_of fs p

pub at_here : (a e p : ℕ) → p ≡ a → at a e p ≡ e
at_here zero e zero h = refl
at_here zero e (suc p) h = absurd (omega (arith, h))
at_here (suc a) e zero h = absurd (omega (arith, h))
at_here (suc a) e (suc p) h = at_here a e p (omega (arith, h))

pub at_other : (a e p : ℕ) → p ≢ a → at a e p ≡ 0
at_other zero e zero h = absurd (h refl)
at_other zero e (suc p) h = refl
at_other (suc a) e zero h = refl
at_other (suc a) e (suc p) h = at_other a e p (λ q. h (ap suc q))

none_before : (k : ℕ) (w : Exponents) (p : ℕ) → p < k → exponent_of (factors_from k w) p ≡ 0
none_before k [] p l = refl
none_before k (zero ∷ w) p l = none_before (suc k) w p (omega arith)
none_before k (suc e ∷ w) p l =
    let a = at_other k (suc e) p (λ q. omega (arith, q)) in
    let b = none_before (suc k) w p (omega arith) in
    omega arith

from_place : (k : ℕ) (w : Exponents) (p a : ℕ) → a ≡ k + p → exponent_of (factors_from k w) a ≡ exponent w p
from_place k [] p a h = refl
from_place k (zero ∷ w) zero a h = none_before (suc k) w a (omega (arith, h))
from_place k (zero ∷ w) (suc p) a h = from_place (suc k) w p a (omega (arith, h))
from_place k (suc e ∷ w) zero a h =
    let x = at_here k (suc e) a (omega (arith, h)) in
    let y = none_before (suc k) w a (omega (arith, h)) in
    omega arith
from_place k (suc e ∷ w) (suc p) a h =
    let x = at_other k (suc e) a (λ q. omega (arith, h, q)) in
    x_plus a x ∙ from_place (suc k) w p a (omega (arith, h))
  where
    x_plus : (a : ℕ) → at k (suc e) a ≡ 0 → exponent_of (factors_from k (suc e ∷ w)) a ≡ exponent_of (factors_from (suc k) w) a
    x_plus a x = omega arith

-- the letters of a word have its exponents
pub exponent_of_word : (w : Exponents) (p : ℕ) → exponent_of (factors_of w) p ≡ exponent w p
exponent_of_word w p = from_place 0 w p p (omega arith)

take_next : (fs : List Factor) (n : ℕ) (d : Factor) (p : ℕ) → n < length fs →
    exponent_of (take (suc n) fs) p ≡ exponent_of (take n fs) p + at (get_or fs n d).letter (get_or fs n d).exponent p
take_next [] n d p l = absurd (omega arith)
take_next (f ∷ fs) zero d p l = omega arith
take_next (f ∷ fs) (suc n) d p l = let h = take_next fs n d p (omega arith) in omega arith

pub take_more : (fs : List Factor) (n : ℕ) (d : Factor) (p : ℕ) → n < length fs →
    exponent_of (take (n + 1) fs) p ≡ exponent_of (take n fs) p + at (get_or fs n d).letter (get_or fs n d).exponent p
take_more fs n d p l = subst (λ m. exponent_of (take m fs) p ≡ exponent_of (take n fs) p + at (get_or fs n d).letter (get_or fs n d).exponent p)
    (let e : suc n ≡ n + 1 = omega arith in e) (take_next fs n d p l)

pub take_part : (fs : List Factor) (n p : ℕ) → exponent_of (take n fs) p ≤ exponent_of fs p
take_part [] zero p = omega arith
take_part [] (suc n) p = omega arith
take_part (f ∷ fs) zero p = omega arith
take_part (f ∷ fs) (suc n) p = let h = take_part fs n p in omega arith

pub take_whole : (fs : List Factor) (n p : ℕ) → length fs ≤ n → exponent_of (take n fs) p ≡ exponent_of fs p
take_whole [] zero p l = refl
take_whole [] (suc n) p l = refl
take_whole (f ∷ fs) zero p l = absurd (omega arith)
take_whole (f ∷ fs) (suc n) p l = let h = take_whole fs n p (omega arith) in omega arith

member_exponent : (k : ℕ) (w : Exponents) (f : Factor) → Contains (factors_from k w) f → (p : ℕ) × (f.letter ≡ k + p) × (f.exponent ≡ exponent w p)
member_exponent k [] f h = absurd (contains_none f h)
member_exponent k (zero ∷ w) f h = let r = member_exponent (suc k) w f h in let e = r.1 in (suc r.0, omega (arith, e), r.2)
member_exponent k (suc e ∷ w) f h =
    ⊎_elim (λ q. (zero, (let x = ap (λ (g : Factor). g.letter) q in omega (arith, x)), sym (ap (λ (g : Factor). g.exponent) q)))
    (λ c. let r = member_exponent (suc k) w f c in let x = r.1 in (suc r.0, omega (arith, x), r.2))
    (contains_cases (record { letter = k; exponent = suc e }) (factors_from (suc k) w) f h)

-- a member has the exponent of its letter
pub has_exponent : (w : Exponents) (f : Factor) → Contains (factors_of w) f → f.exponent ≡ exponent w f.letter
has_exponent w f h = let r = member_exponent 0 w f h in r.2 ∙ ap (exponent w) (let e = r.1 in let q : r.0 ≡ f.letter = omega (arith, e) in q)

-- and its letter is one of the places
pub letter_inside : (w : Exponents) (f : Factor) → Contains (factors_of w) f → f.letter < length w
letter_inside w f h = ⊎_elim
    (λ q. absurd ((letters_are w f.letter).0 (contains_map (λ (g : Factor). g.letter) (factors_of w) f h) (exponent_past w f.letter q)))
    (λ q. omega (arith, q)) (le_or_not (length w) f.letter)

-- the letters decide if a word divides another one
pub factors_divide : (w v : Exponents) → ((f : Factor) → Contains (factors_of w) f → f.exponent ≤ exponent v f.letter) → Divides w v
factors_divide w v each p = ⊎_elim (λ q. let e = q in omega arith)
    (λ q. let f = factor_of w p q in
    subst (λ a. exponent w a ≤ exponent v a) f.2 (subst (λ e. e ≤ exponent v f.0.letter) (has_exponent w f.0 f.1) (each f.0 f.1)))
    (numbers_or_not (exponent w p) 0)

-- the letters of a word with one place more
factors_after : (k : ℕ) (w : Exponents) (e : ℕ) → factors_from k (w ++ e ∷ []) ≡ factors_from k w ++ factors_from (k + length w) (e ∷ [])
factors_after k [] e = ap (λ m. factors_from m (e ∷ [])) (let q : k ≡ k + 0 = omega arith in q)
factors_after k (zero ∷ w) e = factors_after (suc k) w e ∙ ap (λ m. factors_from (suc k) w ++ factors_from m (e ∷ [])) (let q : suc k + length w ≡ k + suc (length w) = omega arith in q)
factors_after k (suc x ∷ w) e = ap (λ fs. record { letter = k; exponent = suc x } ∷ fs)
    (factors_after (suc k) w e ∙ ap (λ m. factors_from (suc k) w ++ factors_from m (e ∷ [])) (let q : suc k + length w ≡ k + suc (length w) = omega arith in q))

take_place : (w : List ℕ) (n : ℕ) → n < length w → take (suc n) w ≡ take n w ++ exponent w n ∷ []
take_place [] n l = absurd (omega arith)
take_place (e ∷ w) zero l = refl
take_place (e ∷ w) (suc n) l = ap (λ v. e ∷ v) (take_place w n (omega arith))

-- the same of the places before n + 1
pub factors_to : (w : Exponents) (n : ℕ) → n < length w → factors_of (take (n + 1) w) ≡ factors_of (take n w) ++ factors_from n (exponent w n ∷ [])
factors_to w n l =
    ap (λ m. factors_of (take m w)) (let q : n + 1 ≡ suc n = omega arith in q)
    ∙ (ap factors_of (take_place w n l)
    ∙ (factors_after 0 (take n w) (exponent w n)
    ∙ ap (λ m. factors_of (take n w) ++ factors_from m (exponent w n ∷ [])) (let q : 0 + length (take n w) ≡ n = grind (arith, length-take) in q)))

pub factor_here : (n e : ℕ) → 0 < e → factors_from n (e ∷ []) ≡ record { letter = n; exponent = e } ∷ []
factor_here n zero l = absurd (omega arith)
factor_here n (suc e) l = refl

pub factor_none : (n e : ℕ) → e ≤ 0 → factors_from n (e ∷ []) ≡ []
factor_none n zero l = refl
factor_none n (suc e) l = absurd (omega arith)

-- the letters rise
rising_from : (k : ℕ) (w : Exponents) (i j : ℕ) (d : Factor) → i < j → j < length (factors_from k w) → (get_or (factors_from k w) i d).letter < (get_or (factors_from k w) j d).letter
rising_from k [] i j d lt l = absurd (omega arith)
rising_from k (zero ∷ w) i j d lt l = rising_from (suc k) w i j d lt l
rising_from k (suc e ∷ w) i zero d lt l = absurd (omega arith)
rising_from k (suc e ∷ w) zero (suc j) d lt l =
    let m = member_exponent (suc k) w (get_or (factors_from (suc k) w) j d) (contains_at (factors_from (suc k) w) j d (omega arith)) in
    let q = m.1 in omega (arith, q)
rising_from k (suc e ∷ w) (suc i) (suc j) d lt l = rising_from (suc k) w i j d (omega arith) (omega arith)

pub rising : (w : Exponents) (i j : ℕ) (d : Factor) → i < j → j < length (factors_of w) → (get_or (factors_of w) i d).letter < (get_or (factors_of w) j d).letter
rising w i j d lt l = rising_from 0 w i j d lt l

-- the letter of a member is one of the word
pub letter_of : (w : Exponents) (f : Factor) → Contains (factors_of w) f → exponent w f.letter ≢ 0
letter_of w f h = (letters_are w f.letter).0 (contains_map (λ (g : Factor). g.letter) (factors_of w) f h)
