-- Elements reduced by each other.
use Rattle.std.proofs.Common.{◌≡◌, ◌≢◌, ℕ, ◌+◌, ◌<◌, ◌≤◌, length, get_or, take, arith, refl, sym, ◌∙◌, ap, subst, List, [], ◌∷◌, ◌++◌, append_assoc, append-nil, ⊎_elim}
use Rattle.std.specs.Prelude.{Contains, map}
use Rattle.std.proofs.lemmas.List.{get_or-map, length-map, take_all, take_more}
use Rattle.monomial_order.specs.laws.Lists.{contains_cases, contains_either, contains_none}
use Rattle.word_field.specs.Field.{FieldOps, IsField}
use Rattle.word_field.specs.laws.Field.{negate-zero, zero-times}
use Rattle.monomial_order.specs.Monomial.{Exponents}
use Rattle.monomial_order.specs.MonomialOrder.{MonomialOrder}
use Rattle.polynomials.specs.Polynomial.{Polynomial, coefficient, lead_monomial, Same}
use Rattle.polynomials.specs.Subalgebra.{Presented}
use Rattle.polynomials.specs.laws.Ring.{coefficient-append, coefficient_value}
use Rattle.witness.specs.declared.tracked.Tracked.{Tracked}
use Rattle.subduction.specs.Settling.{AreLess, AreMadeFrom, IsDifference, IsLess, IsMadeFrom}

module _ {E : Type 0} (K : FieldOps E) (F : IsField K) where
  pub difference_nothing : (c : E) (p q : Polynomial E) → c ≡ K.zero → (m : Exponents) → coefficient K p m ≡ K.plus (coefficient K p m) (K.times (K.negate c) (coefficient K q m))
  difference_nothing c p q z m =
      sym (ap (λ x. K.plus (coefficient K p m) (K.times (K.negate x) (coefficient K q m))) z ∙
      (ap (λ x. K.plus (coefficient K p m) (K.times x (coefficient K q m))) (negate-zero K F) ∙
      (ap (K.plus (coefficient K p m)) (zero-times K F (coefficient K q m)) ∙
      (F.plus_zero (coefficient K p m) ∙ coefficient_value K F p m))))

  pub difference_is : (c n : E) (p q u r : Polynomial E) → n ≡ K.negate c → ((m : Exponents) → coefficient K u m ≡ K.times n (coefficient K q m)) → Same K r (p ++ u) → IsDifference K c p q r
  difference_is c n p q u r e h s m =
      s m ∙ (coefficient-append K F p u m ∙
      (ap (K.plus (coefficient K p m)) (h m) ∙ ap (λ x. K.plus (coefficient K p m) (K.times x (coefficient K q m))) e))

module _ {F E : Type 0} (P : Presented E) (W : MonomialOrder) where
  pub less_more : (t : Tracked F E) (us : List (Tracked F E)) (s u r : Tracked F E) → AreLess P W t us s → IsLess P W s u r → AreLess P W t (us ++ u ∷ []) r
  less_more t [] s u r e h = (r, subst (λ x. IsLess P W x u r) e h, refl)
  less_more t (v ∷ us) s u r e h = (e.0, e.1, less_more e.0 us s u r e.2 h)

  pub made_more : (old done : List (Tracked F E)) (ms : List Exponents) (us : List (Tracked F E)) (m : Exponents) (u : Tracked F E) →
      AreMadeFrom P W old done ms us → IsMadeFrom P W old (done ++ us) m u → AreMadeFrom P W old done (ms ++ m ∷ []) (us ++ u ∷ [])
  made_more old done [] [] m u h k = (subst (λ d. IsMadeFrom P W old d m u) (append-nil done) k, tt)
  made_more old done [] (v ∷ us) m u h k = absurd h
  made_more old done (n ∷ ms) [] m u h k = absurd h
  made_more old done (n ∷ ms) (v ∷ us) m u h k =
      (h.0, made_more old (done ++ v ∷ []) ms us m u h.1 (subst (λ d. IsMadeFrom P W old d m u) (sym (append_assoc done (v ∷ []) us)) k))

  pub less_next : (t : Tracked F E) (us : List (Tracked F E)) (i : ℕ) (u s r : Tracked F E) → i < length us → u ≡ get_or us i u → AreLess P W t (take i us) s → IsLess P W s u r → AreLess P W t (take (i + 1) us) r
  less_next t us i u s r l e a h =
      subst (λ xs. AreLess P W t xs r) (sym (take_more us i u l ∙ ap (λ x. take i us ++ x ∷ []) (sym e))) (less_more t (take i us) s u r a h)

  pub made_next : (old : List (Tracked F E)) (ms : List Exponents) (i : ℕ) (m : Exponents) (us : List (Tracked F E)) (t u : Tracked F E) → i < length ms → m ≡ get_or ms i m → AreMadeFrom P W old [] (take i ms) us →
      Contains old t → lead_monomial t.value ≡ m → AreLess P W t us u → AreMadeFrom P W old [] (take (i + 1) ms) (us ++ u ∷ [])
  made_next old ms i m us t u l e a k d h =
      subst (λ xs. AreMadeFrom P W old [] xs (us ++ u ∷ [])) (sym (take_more ms i m l ∙ ap (λ x. take i ms ++ x ∷ []) (sym e)))
      (made_more old [] (take i ms) us m u a (record { element = t; is_old = k; lead = d; less = h }))

module _ {F E : Type 0} where
  abbrev leads : List (Tracked F E) → List Exponents
  leads ts = map lead_monomial (map (λ t. t.value) ts)

  pub lead_next : (ts : List (Tracked F E)) (i : ℕ) (t : Tracked F E) (m : Exponents) → i < length ts → t ≡ get_or ts i t → lead_monomial t.value ≢ m → ¬ Contains (take i (leads ts)) m → ¬ Contains (take (i + 1) (leads ts)) m
  lead_next ts i t m l e n h k =
      let n1 = length-map (map (λ t. t.value) ts) lead_monomial in
      let n2 = length-map ts (λ (t : Tracked F E). t.value) in
      let q : get_or (leads ts) i (lead_monomial t.value) ≡ lead_monomial t.value =
      get_or-map lead_monomial (map (λ t. t.value) ts) i t.value (lead_monomial t.value) (omega arith) ∙
      (ap lead_monomial (get_or-map (λ t. t.value) ts i t t.value l) ∙ ap (λ (x : Tracked F E). lead_monomial x.value) (sym e)) in
      let j : Contains (take i (leads ts) ++ lead_monomial t.value ∷ []) m = subst (λ xs. Contains xs m) (take_more (leads ts) i (lead_monomial t.value) (omega arith) ∙ ap (λ x. take i (leads ts) ++ x ∷ []) q) k in
      ⊎_elim h (λ a. ⊎_elim n (λ b. contains_none m b) (contains_cases (lead_monomial t.value) [] m a)) (contains_either (take i (leads ts)) (lead_monomial t.value ∷ []) m j)

  pub lead_end : (ts : List (Tracked F E)) (i : ℕ) (m : Exponents) → length ts ≤ i → ¬ Contains (take i (leads ts)) m → Contains (leads ts) m → ⊥
  lead_end ts i m l h k =
      let n1 = length-map (map (λ t. t.value) ts) lead_monomial in
      let n2 = length-map ts (λ (t : Tracked F E). t.value) in
      h (subst (λ xs. Contains xs m) (sym (take_all i (leads ts) (omega arith))) k)
