-- What is left to write of a monomial and of a polynomial.
use Rattle.std.proofs.Common.{◌≡◌, ◌≢◌, ℕ, zero, suc, ◌+◌, ◌<◌, ◌≤◌, refl, sym, ◌∙◌, ap, List, [], ◌∷◌, ◌++◌, map, length, get_or, drop, Bool, true, false, arith, append_assoc, append-nil, add-one, drop-cons, Result, Ok, Err, OnOk}
use Rattle.std.specs.Prelude.{codes}
use Rattle.std.specs.List.{flat_map, join_with_byte}
use Rattle.std.proofs.lemmas.List.{drop_all}
use Rattle.word_field.specs.Field.{FieldOps, IsValue}
use Rattle.monomial_order.specs.declared.terms.Term.{Term}
use Rattle.poly_core.specs.declared.place_names.Names.{Names}
use Rattle.poly_core.specs.Names.{name_of, IsNamed}
use Rattle.poly_core.specs.Text.{factor_text, factors, join, AreValues, AreNamed}
use Rattle.polynomials.specs.Polynomial.{Polynomial}

-- the factors still to be written, of which the first follows a `*` unless nothing is written
abbrev pub factors_left : Bool → List (List ℕ) → List ℕ
factors_left true xs = join_with_byte 42 xs
factors_left false xs = flat_map (λ x. 42 ∷ x) xs

pub join_with_byte-cons : (x : List ℕ) (xs : List (List ℕ)) → join_with_byte 42 (x ∷ xs) ≡ x ++ factors_left false xs
join_with_byte-cons x [] = sym (append-nil x)
join_with_byte-cons x (y ∷ xs) = ap (λ z. x ++ (42 ∷ z)) (join_with_byte-cons y xs)

-- the pieces still to be joined behind others
abbrev pub pieces_left : List ℕ → List (List ℕ) → List ℕ
pieces_left between xs = flat_map (λ x. between ++ x) xs

pub join-cons : (between x : List ℕ) (xs : List (List ℕ)) → join between (x ∷ xs) ≡ x ++ pieces_left between xs
join-cons between x [] = sym (append-nil x)
join-cons between x (y ∷ xs) =
    ap (λ z. x ++ (between ++ z)) (join-cons between y xs) ∙ ap (λ z. x ++ z) (sym (append_assoc between y (pieces_left between xs)))

-- the factors from a place on
pub factors-zero : (names : Names) (m : List ℕ) (i : ℕ) → i < length m → get_or m i 0 ≡ 0 → factors names i (drop i m) ≡ factors names (i + 1) (drop (i + 1) m)
factors-zero names m i l e =
    ap (factors names i) (drop-cons m i 0 l ∙ ap (λ x. x ∷ drop (suc i) m) e) ∙ ap (λ j. factors names j (drop j m)) (sym (add-one i))

pub factors-more : (names : Names) (m : List ℕ) (i : ℕ) → i < length m → get_or m i 0 ≢ 0 → factors names i (drop i m) ≡ factor_text (name_of names i) (get_or m i 0) ∷ factors names (i + 1) (drop (i + 1) m)
factors-more names m i l n =
    ap (factors names i) (drop-cons m i 0 l) ∙ (by_exponent (get_or m i 0) n (drop (suc i) m) ∙ ap (λ j. factor_text (name_of names i) (get_or m i 0) ∷ factors names j (drop j m)) (sym (add-one i)))
  where
    by_exponent : (e : ℕ) → e ≢ 0 → (r : List ℕ) → factors names i (e ∷ r) ≡ factor_text (name_of names i) e ∷ factors names (suc i) r
    by_exponent zero n r = absurd (n refl)
    by_exponent (suc e) n r = refl

pub on_ok : {X E P Q : Type 0} (r : Result X E) → (P → Q) → OnOk r P → OnOk r Q
on_ok (Ok x) f h = f h
on_ok (Err e) f h = tt

-- what is written before a factor
abbrev pub star : Bool → List ℕ
star true = []
star false = 42 ∷ []

factors_left-cons : (first : Bool) (out x : List ℕ) (xs : List (List ℕ)) → ((out ++ star first) ++ x) ++ factors_left false xs ≡ out ++ factors_left first (x ∷ xs)
factors_left-cons true out x xs =
    ap (λ z. (z ++ x) ++ factors_left false xs) (append-nil out) ∙ (append_assoc out x (factors_left false xs) ∙ ap (λ z. out ++ z) (sym (join_with_byte-cons x xs)))
factors_left-cons false out x xs =
    ap (λ z. z ++ factors_left false xs) (append_assoc out (42 ∷ []) x) ∙ append_assoc out (42 ∷ x) (factors_left false xs)

module _ (names : Names) (m : List ℕ) (i : ℕ) (l : i < length m) where
  pub after_zero : (first first2 : Bool) (out out2 whole : List ℕ) → get_or m i 0 ≡ 0 → first2 ≡ first → out2 ≡ out →
      out ++ factors_left first (factors names i (drop i m)) ≡ whole → out2 ++ factors_left first2 (factors names (i + 1) (drop (i + 1) m)) ≡ whole
  after_zero first first2 out out2 whole z f o h =
      ap (λ b. out2 ++ factors_left b (factors names (i + 1) (drop (i + 1) m))) f ∙
      (ap (λ x. x ++ factors_left first (factors names (i + 1) (drop (i + 1) m))) o ∙ (ap (λ x. out ++ factors_left first x) (sym (factors-zero names m i l z)) ∙ h))

  pub after_factor : (first first2 : Bool) (out out1 out2 whole : List ℕ) → get_or m i 0 ≢ 0 → first2 ≡ false → out1 ≡ out ++ star first →
      out2 ≡ out1 ++ factor_text (name_of names i) (get_or m i 0) →
      out ++ factors_left first (factors names i (drop i m)) ≡ whole → out2 ++ factors_left first2 (factors names (i + 1) (drop (i + 1) m)) ≡ whole
  after_factor first first2 out out1 out2 whole n f o1 o2 h =
      ap (λ b. out2 ++ factors_left b (factors names (i + 1) (drop (i + 1) m))) f ∙
      (ap (λ x. x ++ factors_left false (factors names (i + 1) (drop (i + 1) m))) (o2 ∙ ap (λ x. x ++ factor_text (name_of names i) (get_or m i 0)) o1) ∙
      (factors_left-cons first out (factor_text (name_of names i) (get_or m i 0)) (factors names (i + 1) (drop (i + 1) m)) ∙
      (ap (λ x. out ++ factors_left first x) (sym (factors-more names m i l n)) ∙ h)))

-- the terms still to be written, of which the first follows a ` + ` unless nothing is written
abbrev pub terms_left : ℕ → List (List ℕ) → List ℕ
terms_left zero xs = join (codes " + ") xs
terms_left (suc i) xs = pieces_left (codes " + ") xs

-- what is written before a term
abbrev pub plus : ℕ → List ℕ
plus zero = []
plus (suc i) = codes " + "

pub plus_some : (i : ℕ) → 0 < i → plus i ≡ codes " + "
plus_some zero l = absurd (omega arith)
plus_some (suc i) l = refl

pub plus_none : (i : ℕ) → i ≤ 0 → plus i ≡ []
plus_none zero l = refl
plus_none (suc i) l = absurd (omega arith)

terms_left-cons : (i : ℕ) (out x : List ℕ) (xs : List (List ℕ)) → ((out ++ plus i) ++ x) ++ terms_left (suc i) xs ≡ out ++ terms_left i (x ∷ xs)
terms_left-cons zero out x xs =
    ap (λ z. (z ++ x) ++ terms_left 1 xs) (append-nil out) ∙ (append_assoc out x (terms_left 1 xs) ∙ ap (λ z. out ++ z) (sym (join-cons (codes " + ") x xs)))
terms_left-cons (suc i) out x xs =
    ap (λ z. z ++ terms_left 1 xs) (append_assoc out (codes " + ") x) ∙ append_assoc out (codes " + " ++ x) (terms_left 1 xs)

terms_left-nil : (i : ℕ) → terms_left i [] ≡ []
terms_left-nil zero = refl
terms_left-nil (suc i) = refl

module _ {A : Type 0} (text : A → List ℕ) (ts : List A) (i : ℕ) where
  pub after_term : (t : A) (out out1 out2 whole : List ℕ) → i < length ts → t ≡ get_or ts i t → out1 ≡ out ++ plus i → out2 ≡ out1 ++ text t →
      out ++ terms_left i (map text (drop i ts)) ≡ whole → out2 ++ terms_left (i + 1) (map text (drop (i + 1) ts)) ≡ whole
  after_term t out out1 out2 whole l e o1 o2 h =
      ap (λ j. out2 ++ terms_left j (map text (drop j ts))) (add-one i) ∙
      (ap (λ x. x ++ terms_left (suc i) (map text (drop (suc i) ts))) (o2 ∙ ap (λ x. x ++ text t) o1) ∙
      (terms_left-cons i out (text t) (map text (drop (suc i) ts)) ∙
      (ap (λ x. out ++ terms_left i (map text x)) (ap (λ x. x ∷ drop (suc i) ts) e ∙ sym (drop-cons ts i t l)) ∙ h)))

  pub after_terms : (out whole : List ℕ) → length ts ≤ i → out ++ terms_left i (map text (drop i ts)) ≡ whole → out ≡ whole
  after_terms out whole l h =
      sym (append-nil out) ∙ (ap (λ x. out ++ x) (sym (terms_left-nil i)) ∙ (ap (λ x. out ++ terms_left i (map text x)) (sym (drop_all i ts l)) ∙ h))

-- a term of a polynomial
module _ {E : Type 0} where
  pub value_at : (K : FieldOps E) (p : Polynomial E) (i : ℕ) (d : Term E) → AreValues K p → i < length p → IsValue K (get_or p i d).by
  value_at K [] i d h l = absurd (omega arith)
  value_at K (t ∷ p) zero d h l = h.0
  value_at K (t ∷ p) (suc i) d h l = value_at K p i d h.1 (omega arith)

  pub named_at : (names : Names) (p : Polynomial E) (i : ℕ) (d : Term E) → AreNamed names p → i < length p → IsNamed names (get_or p i d).at
  named_at names [] i d h l = absurd (omega arith)
  named_at names (t ∷ p) zero d h l = h.0
  named_at names (t ∷ p) (suc i) d h l = named_at names p i d h.1 (omega arith)

  -- one more term
  pub values_last : (K : FieldOps E) (p : Polynomial E) (t : Term E) → AreValues K p → IsValue K t.by → AreValues K (p ++ t ∷ [])
  values_last K [] t h v = (v, tt)
  values_last K (u ∷ p) t h v = (h.0, values_last K p t h.1 v)

  pub named_last : (names : Names) (p : Polynomial E) (t : Term E) → AreNamed names p → IsNamed names t.at → AreNamed names (p ++ t ∷ [])
  named_last names [] t h v = (v, tt)
  named_last names (u ∷ p) t h v = (h.0, named_last names p t h.1 v)
