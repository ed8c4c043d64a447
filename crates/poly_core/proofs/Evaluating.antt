-- The steps of evaluating a polynomial.
use Rattle.std.proofs.Common.{◌≡◌, ℕ, zero, suc, ◌+◌, ◌*◌, ◌<◌, ◌≤◌, refl, sym, ◌∙◌, ap, subst, List, [], ◌∷◌, ◌++◌, length, get_or, drop, append-nil, arith}
use Rattle.std.specs.Prelude.{map, All}
use Rattle.std.proofs.Math.Seq.{drop-cons}
use Rattle.std.proofs.lemmas.List.{drop_all, get_or_default}
use Rattle.word_field.specs.Field.{FieldOps, IsField}
use Rattle.monomial_order.specs.declared.terms.Term.{Term}
use Rattle.monomial_order.specs.Monomial.{exponent, weighted_degree}
use Rattle.monomial_order.specs.MonomialOrder.{MonomialOrder, IsMonomialOrder}
use Rattle.monomial_order.specs.laws.Comparing.{degree_falls, degree_one}
use Rattle.polynomials.specs.Polynomial.{Polynomial, coefficient, Same, times, constant, degree_of, AllAt, IsCanonical, IsBelow, IsDecreasing, IsSmall}
use Rattle.polynomials.specs.Value.{power, monomial_value, term_value, value, value_degree, HasSmallValue}
use Rattle.poly_core.specs.Powers.{ArePowers, IsPowerOf, IsTable, Reaches}
use Rattle.polynomials.specs.laws.Ring.{times_comm, times_assoc}
use Rattle.polynomials.specs.laws.Same.{times_same, times_same_left, append_same}
use Rattle.polynomials.specs.laws.Value.{one_times, value-append}
use Rattle.polynomials.specs.laws.Terms.{small_times, within_times}
use Rattle.polynomials.specs.laws.Degrees.{decreasing_all, all_found}

module _ {E : Type 0} (K : FieldOps E) (F : IsField K) (O : MonomialOrder) (L : IsMonomialOrder O) where
  below_within : (m : List ℕ) (q : Polynomial E) → IsBelow K O m q → AllAt (λ n. O.degree n ≤ O.degree m) q
  below_within m [] h = tt
  below_within m (t ∷ q) h = (degree_falls O L t.at m h.0, below_within m q h.1)

  canonical_within : (p : Polynomial E) → IsDecreasing K O p → AllAt (λ n. O.degree n ≤ degree_of O p) p
  canonical_within [] h = tt
  canonical_within (t ∷ p) h = (omega arith, below_within t.at p h.0.above)

  same_all : (P : List ℕ → Type 0) (r q : Polynomial E) → IsDecreasing K O r → Same K r q → AllAt P q → AllAt P r
  same_all P r q h s k = decreasing_all K F O L P r h (λ m c. all_found K F O L P q k m (λ z. c (s m ∙ z)))

  within_more : (a b : ℕ) (p : Polynomial E) → a ≡ b → AllAt (λ n. O.degree n ≤ a) p → AllAt (λ n. O.degree n ≤ b) p
  within_more a b p e h = subst (λ c. AllAt (λ n. O.degree n ≤ c) p) e h

  constant_within : (c : E) → AllAt (λ n. O.degree n ≤ 0) (constant K c)
  constant_within c = (let z = degree_one O L in omega arith, tt)

  power_within : (p : Polynomial E) (e : ℕ) → IsDecreasing K O p → AllAt (λ n. O.degree n ≤ e * degree_of O p) (power K p e)
  power_within p zero h = within_more 0 (zero * degree_of O p) (constant K K.one) (omega arith) (constant_within K.one)
  power_within p (suc e) h =
      within_more (degree_of O p + e * degree_of O p) (suc e * degree_of O p) (times K p (power K p e)) (omega arith)
      (within_times K O L p (power K p e) (degree_of O p) (e * degree_of O p) (canonical_within p h) (power_within p e h))

  entry_within : (p : Polynomial E) (e : ℕ) (r : Polynomial E) → IsDecreasing K O p → IsPowerOf K O p e r → AllAt (λ n. O.degree n ≤ e * degree_of O p) r
  entry_within p e r h k = same_all (λ n. O.degree n ≤ e * degree_of O p) r (power K p e) k.canonical.decreasing k.same (power_within p e h)

  -- an entry of a row of powers
  pub power_found : (p : Polynomial E) (rs : List (Polynomial E)) (e : ℕ) (r : Polynomial E) → IsCanonical K O p → ArePowers K O p rs → 1 ≤ e → e ≤ length rs + 1 →
      (e ≡ 1 → r ≡ p) → ((k : ℕ) → e ≡ k + 2 → r ≡ get_or rs k []) → IsPowerOf K O p e r
  power_found p rs zero r hp h l m f n = absurd (omega arith)
  power_found p rs (suc zero) r hp h l m f n =
      subst (IsPowerOf K O p 1) (sym (f refl))
      record { canonical = hp; same = λ k. sym (times_comm K F p (constant K K.one) k ∙ one_times K F p k) }
  power_found p rs (suc (suc e)) r hp h l m f n =
      let is : suc (suc e) ≡ e + 2 = omega arith in
      subst (IsPowerOf K O p (suc (suc e))) (sym (n e is)) (subst (λ x. IsPowerOf K O p x (get_or rs e [])) (sym is) (h e (omega arith)))

  -- the next power
  pub next_small : (p : Polynomial E) (e : ℕ) (r : Polynomial E) → IsCanonical K O p → IsPowerOf K O p e r → (e + 1) * degree_of O p ≤ 65535 → IsSmall O (times K p r)
  next_small p e r hp h b =
      small_times K O L p r (degree_of O p) (e * degree_of O p) (canonical_within p hp.decreasing) (entry_within p e r hp.decreasing h) (omega arith)

  pub next_power : (p : Polynomial E) (e : ℕ) (r s : Polynomial E) → IsPowerOf K O p e r → IsCanonical K O s → Same K s (times K p r) → IsPowerOf K O p (e + 1) s
  next_power p e r s h k is =
      subst (λ x. IsPowerOf K O p x s) (let n : suc e ≡ e + 1 = omega arith in n)
      record { canonical = k; same = λ m. is m ∙ times_same K F p p r (power K p e) (λ n. refl) h.same m }

-- r is c times the value of a monomial
pub record IsPartial {E : Type 0} (K : FieldOps E) (O : MonomialOrder) (c : E) (m : List ℕ) (fs : List (Polynomial E)) (r : Polynomial E) : Type 0 where
  pub canonical : IsCanonical K O r
  pub same : Same K r (times K (constant K c) (monomial_value K m fs))
  pub within : AllAt (λ n. O.degree n ≤ value_degree O fs m) r

module _ {E : Type 0} (K : FieldOps E) (F : IsField K) (O : MonomialOrder) (L : IsMonomialOrder O) (c : E) where
  pub partial_start : (fs : List (Polynomial E)) (r : Polynomial E) → IsCanonical K O r → Same K r (constant K c) → AllAt (λ n. O.degree n ≤ 0) r → IsPartial K O c [] fs r
  partial_start fs r h s w = record {
    canonical = h;
    same = λ n. s n ∙ sym (times_comm K F (constant K c) (constant K K.one) n ∙ one_times K F (constant K c) n);
    within = within_empty fs;
  }
    where
      within_empty : (gs : List (Polynomial E)) → AllAt (λ n. O.degree n ≤ value_degree O gs []) r
      within_empty [] = w
      within_empty (g ∷ gs) = w

  module _ (m : List ℕ) (f : Polynomial E) (fs : List (Polynomial E)) (r : Polynomial E) (h : IsPartial K O c m fs r) where
    pub partial_skip : IsPartial K O c (0 ∷ m) (f ∷ fs) r
    partial_skip = record {
      canonical = h.canonical;
      same = λ n. h.same n ∙ times_same K F (constant K c) (constant K c) (monomial_value K m fs) (times K (constant K K.one) (monomial_value K m fs))
          (λ k. refl) (λ k. sym (one_times K F (monomial_value K m fs) k)) n;
      within = within_more K F O L (value_degree O fs m) (value_degree O (f ∷ fs) (0 ∷ m)) r (omega arith) h.within;
    }

    module _ (e : ℕ) (pw : Polynomial E) (hf : IsCanonical K O f) (hp : IsPowerOf K O f e pw) where
      pub partial_small : value_degree O (f ∷ fs) (e ∷ m) ≤ 65535 → IsSmall O (times K pw r)
      partial_small b =
          small_times K O L pw r (e * degree_of O f) (value_degree O fs m) (entry_within K F O L f e pw hf.decreasing hp) h.within (omega arith)

      pub partial_times : (s : Polynomial E) → IsCanonical K O s → Same K s (times K pw r) → IsPartial K O c (e ∷ m) (f ∷ fs) s
      partial_times s hs is = record {
        canonical = hs;
        same = λ n. is n ∙
            (times_same K F pw (power K f e) r (times K (constant K c) (monomial_value K m fs)) hp.same h.same n ∙
            (sym (times_assoc K F (power K f e) (constant K c) (monomial_value K m fs) n) ∙
            (times_same_left K F (times K (power K f e) (constant K c)) (times K (constant K c) (power K f e)) (monomial_value K m fs) (times_comm K F (power K f e) (constant K c)) n ∙
            times_assoc K F (constant K c) (power K f e) (monomial_value K m fs) n)));
        within = within_more K F O L (e * degree_of O f + value_degree O fs m) (value_degree O (f ∷ fs) (e ∷ m)) s (omega arith)
            (same_all K F O L (λ n. O.degree n ≤ e * degree_of O f + value_degree O fs m) s (times K pw r) hs.decreasing is
            (within_times K O L pw r (e * degree_of O f) (value_degree O fs m) (entry_within K F O L f e pw hf.decreasing hp) h.within));
      }

no_degree : {E : Type 0} (O : MonomialOrder) (gs : List (Polynomial E)) → weighted_degree (map (degree_of O) gs) [] ≤ 0
no_degree O [] = omega arith
no_degree O (g ∷ gs) = omega arith

-- the degree of the value of the later places is no greater
pub value_degree_drop : {E : Type 0} (O : MonomialOrder) (i : ℕ) (m : List ℕ) (fs : List (Polynomial E)) → value_degree O (drop i fs) (drop i m) ≤ value_degree O fs m
value_degree_drop O zero m fs = omega arith
value_degree_drop O (suc i) [] [] = omega arith
value_degree_drop O (suc i) [] (f ∷ fs) = no_degree O (drop i fs)
value_degree_drop O (suc i) (e ∷ m) [] = omega arith
value_degree_drop O (suc i) (e ∷ m) (f ∷ fs) = let h = value_degree_drop O i m fs in omega arith

-- one place of it
pub value_degree_at : {E : Type 0} (O : MonomialOrder) (i : ℕ) (m : List ℕ) (fs : List (Polynomial E)) → i < length fs → exponent m i * degree_of O (get_or fs i []) ≤ value_degree O fs m
value_degree_at O i m [] l = absurd (omega arith)
value_degree_at O zero [] (f ∷ fs) l = omega arith
value_degree_at O zero (e ∷ m) (f ∷ fs) l = omega arith
value_degree_at O (suc i) [] (f ∷ fs) l = omega arith
value_degree_at O (suc i) (e ∷ m) (f ∷ fs) l = let h = value_degree_at O i m fs (omega arith) in omega arith

pub drop_at : {A : Type 0} (xs : List A) (i : ℕ) (x : A) → i < length xs → x ≡ get_or xs i x → drop i xs ≡ x ∷ drop (i + 1) xs
drop_at xs i x h e = drop-cons xs i x h ∙ (ap (λ y. y ∷ drop (suc i) xs) (sym e) ∙ ap (λ n. x ∷ drop n xs) (let k : suc i ≡ i + 1 = omega arith in k))

pub at_any : {A : Type 0} (xs : List A) (i : ℕ) (x d : A) → i < length xs → x ≡ get_or xs i x → x ≡ get_or xs i d
at_any xs i x d l e = e ∙ get_or_default xs i x d l

module _ {E : Type 0} (K : FieldOps E) (F : IsField K) (O : MonomialOrder) (L : IsMonomialOrder O) (c : E) (m : List ℕ) (fs : List (Polynomial E)) where
  pub partial_at_end : (i : ℕ) (r : Polynomial E) → i ≡ length m → IsCanonical K O r → Same K r (constant K c) → AllAt (λ n. O.degree n ≤ 0) r → IsPartial K O c (drop i m) (drop i fs) r
  partial_at_end i r e h s w =
      subst (λ x. IsPartial K O c x (drop i fs) r) (sym (drop_all i m (omega arith))) (partial_start K F O L c (drop i fs) r h s w)

  module _ (rows : List (List (Polynomial E))) (kept : All (IsCanonical K O) fs) (table : IsTable K O fs rows) (reached : Reaches rows m)
      (i j : ℕ) (next : j ≡ i + 1) (lm : i < length m) (lf : i < length fs) (r : Polynomial E) (h : IsPartial K O c (drop j m) (drop j fs) r) where
    after : (f : Polynomial E) → f ≡ get_or fs i f → drop i fs ≡ f ∷ drop j fs
    after f e = drop_at fs i f lf e ∙ ap (λ n. f ∷ drop n fs) (sym next)

    exponents : (e : ℕ) → e ≡ exponent m i → drop i m ≡ e ∷ drop j m
    exponents e is = drop-cons m i 0 lm ∙ (ap (λ x. x ∷ drop (suc i) m) (sym is) ∙ ap (λ n. e ∷ drop n m) (let n : suc i ≡ j = omega arith in n))

    whole : (f : Polynomial E) (e : ℕ) (s : Polynomial E) → f ≡ get_or fs i f → e ≡ exponent m i → IsPartial K O c (e ∷ drop j m) (f ∷ drop j fs) s → IsPartial K O c (drop i m) (drop i fs) s
    whole f e s ef ee k =
        subst (λ x. IsPartial K O c x (drop i fs) s) (sym (exponents e ee)) (subst (λ x. IsPartial K O c (e ∷ drop j m) x s) (sym (after f ef)) k)

    pub place_skipped : 0 ≡ exponent m i → IsPartial K O c (drop i m) (drop i fs) r
    place_skipped e =
        whole (get_or fs i []) 0 r (at_any_default fs) e (partial_skip K F O L c (drop j m) (get_or fs i []) (drop j fs) r h)
      where
        at_any_default : (xs : List (Polynomial E)) → get_or xs i [] ≡ get_or xs i (get_or xs i [])
        at_any_default xs = go xs i
          where
            go : (ys : List (Polynomial E)) (k : ℕ) → get_or ys k [] ≡ get_or ys k (get_or ys k [])
            go [] k = refl
            go (y ∷ ys) zero = refl
            go (y ∷ ys) (suc k) = go ys k

    module _ (f : Polynomial E) (row : List (Polynomial E)) (e : ℕ) (pw : Polynomial E) (ef : f ≡ get_or fs i f) (er : row ≡ get_or rows i row) (ee : e ≡ exponent m i)
        (positive : 1 ≤ e) (first : e ≡ 1 → pw ≡ f) (later : (k : ℕ) → e ≡ k + 2 → pw ≡ get_or row k []) where
      lr : i < length rows
      lr = let n = table.rows_match in omega arith

      pub place_kept : IsCanonical K O f
      place_kept = subst (IsCanonical K O) (sym ef) (kept i f lf)

      pub place_power : IsPowerOf K O f e pw
      place_power =
          let ps : ArePowers K O f row =
          subst (λ x. ArePowers K O x row) (sym (at_any fs i f [] lf ef))
          (subst (ArePowers K O (get_or fs i [])) (sym (at_any rows i row [] lr er)) (table.powers i lf)) in
          let n : exponent m i ≤ length row + 1 = subst (λ x. exponent m i ≤ length x + 1) (sym (at_any rows i row [] lr er)) (reached i lr) in
          power_found K F O L f row e pw place_kept ps positive (omega arith) first later

      pub place_small : value_degree O fs m ≤ 65535 → IsSmall O (times K pw r)
      place_small b =
          partial_small K F O L c (drop j m) f (drop j fs) r h e pw place_kept place_power
          (let d = value_degree_drop O i m fs in
          subst (λ x. value_degree O x (e ∷ drop j m) ≤ 65535) (after f ef) (subst (λ x. value_degree O (drop i fs) x ≤ 65535) (exponents e ee) (omega arith)))

      pub place_multiplied : (s : Polynomial E) → IsCanonical K O s → Same K s (times K pw r) → IsPartial K O c (drop i m) (drop i fs) s
      place_multiplied s hs is = whole f e s ef ee (partial_times K F O L c (drop j m) f (drop j fs) r h e pw place_kept place_power s hs is)

module _ {E : Type 0} (K : FieldOps E) (F : IsField K) (fs : List (Polynomial E)) where
  pub single_value : (h : Polynomial E) (t : Term E) (r : Polynomial E) → h ≡ t ∷ [] → Same K r (term_value K fs t) → Same K r (value K h fs)
  single_value h t r e s m = s m ∙ ap (λ x. coefficient K x m) (sym (append-nil (term_value K fs t)) ∙ ap (λ x. value K x fs) (sym e))

  pub value_halves : (h front back g s r : Polynomial E) → h ≡ front ++ back → Same K g (value K front fs) → Same K s (value K back fs) → Same K r (g ++ s) → Same K r (value K h fs)
  value_halves h front back g s r e hg hs hr m =
      hr m ∙ (append_same K F g (value K front fs) s (value K back fs) hg hs m ∙
      ap (λ x. coefficient K x m) (sym (value-append K F front back fs) ∙ ap (λ x. value K x fs) (sym e)))

-- the degrees at a place are small
pub place_degrees : {E : Type 0} (O : MonomialOrder) (h : Polynomial E) (fs : List (Polynomial E)) (i : ℕ) (p : Polynomial E) → HasSmallValue O fs h → i < length fs → p ≡ get_or fs i p →
    All (λ t. exponent t.at i * degree_of O p ≤ 65535) h
place_degrees O h fs i p small l e k d lk =
    subst (λ q. exponent (get_or h k d).at i * degree_of O q ≤ 65535) (sym (at_any fs i p [] l e))
    (let a = value_degree_at O i (get_or h k d).at fs l in let b = small k d lk in omega arith)
