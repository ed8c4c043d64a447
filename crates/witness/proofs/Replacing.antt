-- Letters of elements are replaced by their witnesses.
use Rattle.std.proofs.Common.{◌≡◌, ◌≢◌, ℕ, zero, suc, ◌+◌, ◌-◌, ◌*◌, ◌<◌, ◌≤◌, refl, sym, ◌∙◌, ap, subst, List, [], ◌∷◌, ◌++◌, length, get_or, length-append, arith, ⊎_elim, ◌⊎◌, inl, inr}
use Rattle.std.specs.Prelude.{All, Contains, map}
use Rattle.std.proofs.lemmas.List.{length-map, get_or-map, get_or_append_left, get_or-append-add, get_or_past, get_or_default, get_or_push}
use Rattle.std.proofs.Math.Nat.{mul-le-mul_left}
use Rattle.word_field.specs.Field.{FieldOps, IsField}
use Rattle.word_field.specs.laws.Field.{times-zero}
use Rattle.monomial_order.specs.Monomial.{Exponents, exponent, variable, product, weighted_degree, IsMonomial}
use Rattle.monomial_order.specs.MonomialOrder.{MonomialOrder, IsMonomialOrder}
use Rattle.monomial_order.specs.declared.word_order.WordOrder.{WordOrder}
use Rattle.monomial_order.specs.laws.Lists.{contains_cases, contains_none, map_contains}
use Rattle.monomial_order.specs.laws.Monomial.{variable_off, exponent-product, variable_at}
use Rattle.monomial_order.specs.laws.Comparing.{numbers_or_not, le_or_not, degree_one}
use Rattle.polynomials.specs.Polynomial.{Polynomial, coefficient, Same, term_of, scaled, times, constant, degree_of, AllAt, IsPoly, IsDecreasing, IsCanonical}
use Rattle.polynomials.specs.Ideal.{Congruent}
use Rattle.polynomials.specs.Value.{power, monomial_value, term_value, value, HasSmallValue}
use Rattle.polynomials.specs.Subalgebra.{Presented, IsPresentation}
use Rattle.polynomials.specs.laws.Congruence.{congruent_same, congruent_trans, congruent_sym}
use Rattle.polynomials.specs.laws.Coefficients.{append_nonzero, value_letter}
use Rattle.polynomials.specs.laws.Decreasing.{IsDecreasing_IsPoly, coefficient_first}
use Rattle.polynomials.specs.laws.Degrees.{AreGraded, graded_value, all_found, decreasing_all}
use Rattle.polynomials.specs.laws.Membership.{ArePolys, IsPoly-value}
use Rattle.polynomials.specs.laws.Terms.{AllAt-append}
use Rattle.witness.specs.laws.Members.{places_polys}
use Rattle.polynomials.specs.laws.Value.{coefficient-constant_times, value_same}
use Rattle.subalgebra_laws.specs.Bases.{AreCongruent}
use Rattle.subalgebra_laws.specs.Statements.{ValuesCompose, ValuesAreCongruent}
use Rattle.witness.specs.declared.tracked.Tracked.{Tracked}
use Rattle.witness.specs.Expansion.{UsesUpTo, IsReplaced, IsReplacement}
use Rattle.witness.specs.Tracking.{by_order, letter_poly, IsGraded, IsTrackedElement, IsWitnessOrder}
use Rattle.witness.specs.laws.Letters.{canonical_letter, graded_letter, by_laws, by_small, by_places, element_weight, weighted_letter}

-- a property of the monomials of polynomials that products keep holds of the monomials of a value
module _ {E : Type 0} (K : FieldOps E) (Q : Exponents → Type 0) (one : Q []) (both : (m n : Exponents) → Q m → Q n → Q (product m n)) where
  scaled_all : (t : Exponents) (c : E) (q : Polynomial E) → Q t → AllAt Q q → AllAt Q (scaled K (term_of t c) q)
  scaled_all t c [] h a = tt
  scaled_all t c (u ∷ q) h a = (both t u.at h a.0, scaled_all t c q h a.1)

  times_all : (p q : Polynomial E) → AllAt Q p → AllAt Q q → AllAt Q (times K p q)
  times_all [] q a b = tt
  times_all (t ∷ p) q a b = AllAt-append Q (scaled K t q) (times K p q) (scaled_all t.at t.by q a.0 b) (times_all p q a.1 b)

  power_all : (f : Polynomial E) (e : ℕ) → AllAt Q f → AllAt Q (power K f e)
  power_all f zero a = (one, tt)
  power_all f (suc e) a = times_all f (power K f e) a (power_all f e a)

  monomial_all : (m : Exponents) (at : List (Polynomial E)) → ((i : ℕ) → exponent m i ≢ 0 → i < length at → AllAt Q (get_or at i [])) → AllAt Q (monomial_value K m at)
  monomial_all [] at h = (one, tt)
  monomial_all (e ∷ m) [] h = (one, tt)
  monomial_all (zero ∷ m) (f ∷ at) h = times_all (power K f 0) (monomial_value K m at) (one, tt) (monomial_all m at (λ i n l. h (suc i) n (omega arith)))
  monomial_all (suc e ∷ m) (f ∷ at) h =
      times_all (power K f (suc e)) (monomial_value K m at) (power_all f (suc e) (h 0 (omega arith) (omega arith))) (monomial_all m at (λ i n l. h (suc i) n (omega arith)))

  value_all : (h : Polynomial E) (at : List (Polynomial E)) → AllAt (λ m. (i : ℕ) → exponent m i ≢ 0 → i < length at → AllAt Q (get_or at i [])) h → AllAt Q (value K h at)
  value_all [] at a = tt
  value_all (t ∷ h) at a =
      AllAt-append Q (term_value K at t) (value K h at) (times_all (constant K t.by) (monomial_value K t.at at) (one, tt) (monomial_all t.at at a.0)) (value_all h at a.1)

-- weights that are smaller place by place
weighted_less : {A : Type 0} (f : A → ℕ) (xs : List A) (ws : List ℕ) (d : A) (m : Exponents) → length xs ≡ length ws → ((i : ℕ) → i < length xs → f (get_or xs i d) ≤ get_or ws i 0) →
    weighted_degree (map f xs) m ≤ weighted_degree ws m
weighted_less f [] [] d m l h = omega arith
weighted_less f [] (w ∷ ws) d m l h = absurd (omega arith)
weighted_less f (x ∷ xs) [] d m l h = absurd (omega arith)
weighted_less f (x ∷ xs) (w ∷ ws) d [] l h = omega arith
weighted_less f (x ∷ xs) (w ∷ ws) d (e ∷ m) l h =
    let r = weighted_less f xs ws d m (omega arith) (λ i k. h (suc i) (omega arith)) in
    let a : e * f x ≤ e * w = mul-le-mul_left e (h 0 (omega arith)) in
    let b : f x * e ≡ e * f x = omega arith in
    let c : w * e ≡ e * w = omega arith in
    omega arith

module _ {E : Type 0} (K : FieldOps E) (F : IsField K) (W : MonomialOrder) (L : IsMonomialOrder W) where
  graded_list : (ws : List ℕ) (at : List (Polynomial E)) → length ws ≡ length at → ((i : ℕ) → i < length at → IsPoly K W.places (get_or at i []) × IsGraded K W (get_or ws i 0) (get_or at i [])) →
      AreGraded K F W L ws at
  graded_list [] [] l h = tt
  graded_list (w ∷ ws) [] l h = tt
  graded_list [] (a ∷ at) l h = absurd (omega arith)
  graded_list (w ∷ ws) (a ∷ at) l h = let z = h 0 (omega arith) in (z.0, z.1, graded_list ws at (omega arith) (λ i k. h (suc i) (omega arith)))

  -- the degrees of a value at polynomials of the degrees of the letters
  value_degrees : (R : ℕ → Type 0) (ws : List ℕ) (at : List (Polynomial E)) (h : Polynomial E) → length ws ≡ length at → AreGraded K F W L ws at → AllAt (λ m. R (weighted_degree ws m)) h →
      (m : Exponents) → coefficient K (value K h at) m ≢ K.zero → R (W.degree m)
  unfolding coefficient
  value_degrees R ws at [] l g a m n = absurd (n refl)
  value_degrees R ws at (t ∷ h) l g a m n =
      ⊎_elim (λ k. subst R (sym (graded_value K F W L t.at ws at l g m (λ z. k (coefficient-constant_times K F t.by (monomial_value K t.at at) m ∙ (ap (K.times t.by) z ∙ times-zero K F t.by))))) a.0)
      (λ k. value_degrees R ws at h l g a.1 m k) (append_nonzero K F (term_value K at t) (value K h at) m n)

  -- the degree of a homogeneous polynomial
  graded_degree : (d : ℕ) (p : Polynomial E) → IsDecreasing K W p → IsGraded K W d p → W.degree [] ≡ 0 → degree_of W p ≤ d
  graded_degree d [] h g z = omega arith
  graded_degree d (t ∷ p) h g z = let e = g t.at (λ z. h.0.nonzero (sym (coefficient_first K F W L t p h.0) ∙ z)) in omega arith

-- one more polynomial at the end of a list
pub more_replacements : {E : Type 0} (R : ℕ → Polynomial E → Type 0) (at : List (Polynomial E)) (a : Polynomial E) (n : ℕ) → length at ≡ n → ((i : ℕ) → i < n → R i (get_or at i [])) → R n a →
    (i : ℕ) → i < n + 1 → R i (get_or (at ++ a ∷ []) i [])
more_replacements R at a n l h r i li =
    ⊎_elim (λ e. subst (λ j. R j (get_or (at ++ a ∷ []) j [])) (sym e) (subst (R n) (sym (get_or_push at a [] n l)) r))
    (λ o. let b : i < n = omega (arith, o) in subst (R i) (sym (get_or_append_left at (a ∷ []) [] i (omega arith))) (h i b)) (numbers_or_not i n)

module _ {E : Type 0} (P : Presented E) (H : IsPresentation P) (S : List (Polynomial E)) (w : WordOrder) (h : IsWitnessOrder P S w) where
  open P use {field as K, order as O, ideal as rs, generators as fs}
  open H use {field as F}

  abbrev W : MonomialOrder
  W = by_order w

  abbrev ds : List ℕ
  ds = w.s_degrees.items

  abbrev k : ℕ
  k = length P.generators

  weights : w.x_degrees.items ++ w.s_degrees.items ≡ ds
  weights = ap (λ xs. xs ++ w.s_degrees.items) h.no_x

  pub degrees_places : length ds ≡ k + length S
  degrees_places = sym (ap length weights) ∙ by_places P S w h

  pub order_places : W.places ≡ length ds
  order_places = ap length weights

  pub letter_monomials : (e : Polynomial E) → IsDecreasing K W e → AllAt (IsMonomial (length ds)) e
  letter_monomials [] d = tt
  letter_monomials (t ∷ e) d = (subst (λ n. IsMonomial n t.at) order_places (let l = d.0 in l.term.monomial), letter_monomials e d.1)

  letter_weight : (i : ℕ) → i < length ds → W.degree (variable i) ≡ get_or ds i 0
  letter_weight i l = weighted_letter (w.x_degrees.items ++ w.s_degrees.items) i (let p = order_places in omega arith) ∙ ap (λ ws. get_or ws i 0) weights

  degree_of_weights : (m : Exponents) → W.degree m ≡ weighted_degree ds m
  degree_of_weights m = ap (λ ws. weighted_degree ws m) weights

  -- a letter stands for itself, if it is none of an element of degree d
  pub letter_replacement : (d i : ℕ) → 1 ≤ d → i < k + length S → (i < k) ⊎ (get_or ds i 0 ≢ d) → IsReplacement P W S ds d i (letter_poly K i)
  letter_replacement d i p l other = record {
    canonical = canonical_letter K F W (by_small w) i (let a = order_places in let b = degrees_places in omega arith);
    graded = graded_letter K F W (get_or ds i 0) i (letter_weight i (let b = degrees_places in omega arith));
    value = congruent_same K F O.places rs (get_or (fs ++ S) i []) (value K (letter_poly K i) (fs ++ S)) (λ m. sym (value_letter K F (fs ++ S) i (let a = length-append fs S in omega arith) m));
    lower = λ u. (λ j n. ⊎_elim (λ e. below u j e other) (λ e. absurd (n (variable_off i (k + j) e))) (numbers_or_not i (k + j)), tt);
  }
    where
      below : UsesUpTo k ds d (variable i) → (j : ℕ) → i ≡ k + j → (i < k) ⊎ (get_or ds i 0 ≢ d) → get_or ds (k + j) 0 ≤ d - 1
      below u j e (inl l) = absurd (omega arith)
      below u j e (inr n) =
          let o : exponent (variable i) (k + j) ≡ 1 = ap (exponent (variable i)) (sym e) ∙ variable_at i in
          let a : get_or ds (k + j) 0 ≤ d = u j (λ z. let q : 1 ≡ 0 = sym o ∙ z in omega arith) in
          let b : get_or ds (k + j) 0 ≢ d = λ z. n (ap (λ x. get_or ds x 0) e ∙ z) in
          omega (arith, b)

  -- the witness of an element of degree d stands for its letter
  pub witness_replacement : {A : Type 0} (d j : ℕ) (t : Tracked A E) → j < length S → get_or S j [] ≡ t.value → get_or ds (k + j) 0 ≡ d → IsTrackedElement P W S t →
      IsReplacement P W S ds d (k + j) t.by
  witness_replacement d j t l e ed ht = record {
    canonical = ht.canonical.by;
    graded = λ m n. ht.graded.by m n ∙ same;
    value = congruent_trans K F O.places rs (get_or (fs ++ S) (k + j) []) t.value (value K t.by (fs ++ S))
        (congruent_same K F O.places rs (get_or (fs ++ S) (k + j) []) t.value (λ m. ap (λ p. coefficient K p m) (get_or-append-add fs S j [] ∙ e))) ht.tracks;
    lower = λ u. decreasing_all K F W (by_laws w) (UsesUpTo k ds (d - 1)) t.by ht.canonical.by.decreasing (λ m n i x. lower m n i x);
  }
    where
      weight : (i : ℕ) → i < length S → get_or ds (k + i) 0 ≡ degree_of O (get_or S i [])
      weight i l = ap (λ ws. get_or ws (k + i) 0) (sym weights) ∙ element_weight P S w h i l

      same : degree_of O t.value ≡ get_or ds (k + j) 0
      same = ap (degree_of O) (sym e) ∙ sym (weight j l)

      lower : (m : Exponents) → coefficient K t.by m ≢ K.zero → (i : ℕ) → exponent m (k + i) ≢ 0 → get_or ds (k + i) 0 ≤ d - 1
      lower m n i x =
          ⊎_elim (λ past. let z = get_or_past ds (k + i) 0 (let b = degrees_places in omega arith) in omega arith)
          (λ inside. let a = ht.lower m n i x in let b = weight i (omega arith) in let c = same in omega arith) (le_or_not (length S) i)

  module _ (d : ℕ) (at : List (Polynomial E)) (long : length at ≡ k + length S) (each : (i : ℕ) → i < length at → IsReplacement P W S ds d i (get_or at i [])) where
    at_poly : (i : ℕ) → i < length at → IsPoly K W.places (get_or at i [])
    at_poly i l = IsDecreasing_IsPoly K W (get_or at i []) (let r = each i l in r.canonical.decreasing)

    pub all_canonical : All (IsCanonical K W) at
    all_canonical i z l = subst (IsCanonical K W) (get_or_default at i [] z l) (let r = each i l in r.canonical)

    same_length : length ds ≡ length at
    same_length = degrees_places ∙ sym long

    at_graded : AreGraded K F W (by_laws w) ds at
    at_graded = graded_list K F W (by_laws w) ds at same_length (λ i l. (at_poly i l, let r = each i l in r.graded))

    -- the program can compute the value at them
    pub small_value : (e : Polynomial E) → AllAt (λ m. W.degree m ≤ 30000) e → HasSmallValue W at e
    small_value [] a i t l = absurd (let z : i < 0 = l in omega arith)
    small_value (u ∷ e) a zero t l =
        let x = weighted_less (degree_of W) at ds [] u.at (sym same_length) (λ i li. graded_degree K F W (by_laws w) (get_or ds i 0) (get_or at i []) (let r = each i li in r.canonical.decreasing) (let r = each i li in r.graded) (degree_one W (by_laws w))) in
        let y = degree_of_weights u.at in
        let z = a.0 in
        omega arith
    small_value (u ∷ e) a (suc i) t l = small_value e a.1 i t (omega arith)

    module _ (e r : Polynomial E) (ce : IsCanonical K W e) (cr : IsCanonical K W r) (s : Same K r (value K e at)) where
      e_all : (R : Exponents → Type 0) → ((m : Exponents) → coefficient K e m ≢ K.zero → R m) → AllAt R e
      e_all R = decreasing_all K F W (by_laws w) R e ce.decreasing

      degrees_kept : (R : ℕ → Type 0) → ((m : Exponents) → coefficient K e m ≢ K.zero → R (W.degree m)) → (m : Exponents) → coefficient K r m ≢ K.zero → R (W.degree m)
      degrees_kept R hr m n =
          value_degrees K F W (by_laws w) R ds at e same_length at_graded (e_all (λ i. R (weighted_degree ds i)) (λ i k. subst R (degree_of_weights i) (hr i k))) m (λ z. n (s m ∙ z))

      congruent_lists : AreCongruent P (map (λ a. value K a (fs ++ S)) at) (fs ++ S) → ValuesCompose P → ValuesAreCongruent P →
          Congruent K O.places rs (value K e (fs ++ S)) (value K r (fs ++ S))
      congruent_lists lists compose congruent =
          congruent_trans K F O.places rs (value K e (fs ++ S)) (value K e (map (λ a. value K a (fs ++ S)) at)) (value K r (fs ++ S))
          (congruent_sym K F O.places rs (value K e (map (λ a. value K a (fs ++ S)) at)) (value K e (fs ++ S))
          (congruent W.places e (map (λ a. value K a (fs ++ S)) at) (fs ++ S) (IsDecreasing_IsPoly K W e ce.decreasing) lists))
          (congruent_same K F O.places rs (value K e (map (λ a. value K a (fs ++ S)) at)) (value K r (fs ++ S))
          (λ m. compose e at (fs ++ S) m ∙ sym (value_same K F r (value K e at) (fs ++ S) s m)))

      pub replaced_lower : AllAt (UsesUpTo k ds d) e → AllAt (UsesUpTo k ds (d - 1)) r
      replaced_lower u =
          let q = value_all K (UsesUpTo k ds (d - 1)) (λ i n. absurd (n refl))
          (λ a b ha hb i n. ⊎_elim (λ z. hb i (λ y. n (let q = exponent-product a b (k + i) in omega arith))) (λ z. ha i z) (numbers_or_not (exponent a (k + i)) 0))
          e at (uses e u) in
          decreasing_all K F W (by_laws w) (UsesUpTo k ds (d - 1)) r cr.decreasing (λ m n. all_found K F W (by_laws w) (UsesUpTo k ds (d - 1)) (value K e at) q m (λ z. n (s m ∙ z)))
        where
          letter_uses : (m : Exponents) → UsesUpTo k ds d m → (i : ℕ) → exponent m i ≢ 0 → UsesUpTo k ds d (variable i)
          letter_uses m u i n j x =
              ⊎_elim (λ e. u j (λ z. n (ap (exponent m) e ∙ z))) (λ o. absurd (x (variable_off i (k + j) o))) (numbers_or_not i (k + j))

          uses : (e : Polynomial E) → AllAt (UsesUpTo k ds d) e → AllAt (λ m. (i : ℕ) → exponent m i ≢ 0 → i < length at → AllAt (UsesUpTo k ds (d - 1)) (get_or at i [])) e
          uses [] u = tt
          uses (t ∷ e) u = (λ i n l. let r = each i l in r.lower (letter_uses t.at u.0 i n), uses e u.1)

      pub is_replaced : ((j : ℕ) → j < length S → IsPoly K O.places (get_or S j [])) → ValuesCompose P → ValuesAreCongruent P → IsReplaced P W S e r
      is_replaced polys compose congruent = record {
        canonical = cr;
        value = congruent_lists lists compose congruent;
        degrees = λ c h. degrees_kept (λ x. x ≤ c) h;
        graded = λ c h. degrees_kept (λ x. x ≡ c) h;
      }
        where
          poly_of : (gs : List (Polynomial E)) → ArePolys K F O.places gs → (g : Polynomial E) → Contains gs g → IsPoly K O.places g
          poly_of [] a g c = absurd (contains_none g c)
          poly_of (x ∷ gs) a g c = ⊎_elim (λ e. subst (IsPoly K O.places) e a.0) (λ i. poly_of gs a.1 g i) (contains_cases x gs g c)

          all_polys : ArePolys K F O.places (fs ++ S)
          all_polys = places_polys P H S polys

          lists : AreCongruent P (map (λ a. value K a (fs ++ S)) at) (fs ++ S)
          lists = record {
            same_length = length-map at (λ a. value K a (fs ++ S)) ∙ (long ∙ sym (length-append fs S));
            left = λ f c.
                let x = map_contains (λ a. value K a (fs ++ S)) at f c in
                let l = x.1.1 in
                subst (IsPoly K O.places) x.2
                (IsPoly-value K F O.places W.places x.0 (fs ++ S) (subst (IsPoly K W.places) (get_or_default at x.1.0 [] x.0 l ∙ x.1.2) (at_poly x.1.0 l)) all_polys);
            right = λ g c. poly_of (fs ++ S) all_polys g c;
            each = λ i l.
                let n = length-map at (λ a. value K a (fs ++ S)) in
                let inside : i < length at = omega arith in
                subst (λ x. Congruent K O.places rs x (get_or (fs ++ S) i [])) (sym (get_or-map (λ a. value K a (fs ++ S)) at i [] [] inside))
                (congruent_sym K F O.places rs (get_or (fs ++ S) i []) (value K (get_or at i []) (fs ++ S)) (let r = each i inside in r.value));
          }

module _ {E : Type 0} (P : Presented E) (H : IsPresentation P) (W : MonomialOrder) (S : List (Polynomial E)) where
  pub replaced_none : (h : Polynomial E) → IsCanonical P.field W h → IsReplaced P W S h h
  replaced_none h c = record {
    canonical = c;
    value = congruent_same P.field H.field P.order.places P.ideal (value P.field h (P.generators ++ S)) (value P.field h (P.generators ++ S)) (λ m. refl);
    degrees = λ d x. x;
    graded = λ d x. x;
  }

  pub replaced_more : (h e r : Polynomial E) → IsReplaced P W S h e → IsReplaced P W S e r → IsReplaced P W S h r
  replaced_more h e r a b = record {
    canonical = b.canonical;
    value = congruent_trans P.field H.field P.order.places P.ideal (value P.field h (P.generators ++ S)) (value P.field e (P.generators ++ S)) (value P.field r (P.generators ++ S)) a.value b.value;
    degrees = λ d x. b.degrees d (a.degrees d x);
    graded = λ d x. b.graded d (a.graded d x);
  }
