-- How witnesses are added, multiplied and exchanged.
use Rattle.std.proofs.Common.{◌≡◌, ℕ, ◌+◌, ◌<◌, refl, sym, ◌∙◌, ap, List, [], ◌∷◌, ◌++◌, length, get_or, ⊎_elim}
use Rattle.word_field.specs.Field.{FieldOps, IsField, IsValue}
use Rattle.word_field.specs.laws.Field.{times-zero, zero-plus, negate-plus, negate-negate}
use Rattle.monomial_order.specs.Monomial.{Exponents}
use Rattle.monomial_order.specs.MonomialOrder.{MonomialOrder, IsMonomialOrder}
use Rattle.polynomials.specs.Polynomial.{Polynomial, coefficient, Same, times, constant, minus, IsPoly}
use Rattle.polynomials.specs.Ideal.{Multiple, AreMultiples, sum_of, Congruent}
use Rattle.polynomials.specs.Value.{value}
use Rattle.polynomials.specs.Subalgebra.{Presented, IsPresentation}
use Rattle.polynomials.specs.laws.Ring.{coefficient_value}
use Rattle.polynomials.specs.laws.Same.{times_same}
use Rattle.polynomials.specs.laws.Value.{value_same, value-append, value-times, value-constant, coefficient-constant_times}
use Rattle.polynomials.specs.laws.Ideal.{IsPoly-append, IsPoly-times, constant_poly}
use Rattle.polynomials.specs.laws.Congruence.{coefficient-minus, congruent_same, congruent_plus, congruent_sym, congruent_times, congruent_times_left, congruent_trans}
use Rattle.polynomials.specs.laws.Coefficients.{append_nonzero, minus_poly, value_letter}
use Rattle.polynomials.specs.laws.Degrees.{generator_of, graded_times}
use Rattle.witness.specs.Tracking.{letter_poly, IsGraded}

module _ {E : Type 0} (P : Presented E) (F : IsField P.field) where
  open P use {field as K, order as O, ideal as rs, generators as fs}

  -- h is a witness of v over the elements S
  abbrev pub Tracks : List (Polynomial E) → Polynomial E → Polynomial E → Type 0
  Tracks S v h = Congruent K O.places rs v (value K h (fs ++ S))

  -- only the coefficients of both count
  pub tracks_same : (S : List (Polynomial E)) (v h u k : Polynomial E) → Same K u v → Same K k h → Tracks S v h → Tracks S u k
  tracks_same S v h u k sv sh c =
      congruent_trans K F O.places rs u v (value K k (fs ++ S)) (congruent_same K F O.places rs u v sv)
      (congruent_trans K F O.places rs v (value K h (fs ++ S)) (value K k (fs ++ S)) c
      (congruent_same K F O.places rs (value K h (fs ++ S)) (value K k (fs ++ S)) (λ m. sym (value_same K F k h (fs ++ S) sh m))))

  pub tracks_sum : (S : List (Polynomial E)) (v h u k w l : Polynomial E) → Same K w (v ++ u) → Same K l (h ++ k) → Tracks S v h → Tracks S u k → Tracks S w l
  tracks_sum S v h u k w l sv sh a b =
      tracks_same S (v ++ u) (h ++ k) w l sv sh
      (congruent_trans K F O.places rs (v ++ u) (value K h (fs ++ S) ++ value K k (fs ++ S)) (value K (h ++ k) (fs ++ S))
      (congruent_plus K F O.places rs v (value K h (fs ++ S)) u (value K k (fs ++ S)) a b)
      (congruent_same K F O.places rs (value K h (fs ++ S) ++ value K k (fs ++ S)) (value K (h ++ k) (fs ++ S))
      (λ m. ap (λ p. coefficient K p m) (sym (value-append K F h k (fs ++ S))))))

  pub tracks_multiple : (S : List (Polynomial E)) (c : E) (v h w l : Polynomial E) → IsValue K c → ((m : Exponents) → coefficient K w m ≡ K.times c (coefficient K v m)) →
      ((m : Exponents) → coefficient K l m ≡ K.times c (coefficient K h m)) → Tracks S v h → Tracks S w l
  tracks_multiple S c v h w l is sv sh a =
      tracks_same S (times K (constant K c) v) (times K (constant K c) h) w l
      (λ m. sv m ∙ sym (coefficient-constant_times K F c v m)) (λ m. sh m ∙ sym (coefficient-constant_times K F c h m))
      (congruent_trans K F O.places rs (times K (constant K c) v) (times K (constant K c) (value K h (fs ++ S))) (value K (times K (constant K c) h) (fs ++ S))
      (congruent_times_left K F O.places rs (constant K c) v (value K h (fs ++ S)) (constant_poly K F O.places c is) a)
      (congruent_same K F O.places rs (times K (constant K c) (value K h (fs ++ S))) (value K (times K (constant K c) h) (fs ++ S))
      (λ m. sym (value-times K F (constant K c) h (fs ++ S) m ∙
      times_same K F (value K (constant K c) (fs ++ S)) (constant K c) (value K h (fs ++ S)) (value K h (fs ++ S)) (value-constant K F c (fs ++ S)) (λ i. refl) m))))

  pub tracks_reduced : (S : List (Polynomial E)) (v h w : Polynomial E) → Congruent K O.places rs v w → Tracks S v h → Tracks S w h
  tracks_reduced S v h w c a = congruent_trans K F O.places rs w v (value K h (fs ++ S)) (congruent_sym K F O.places rs v w c) a

  -- the letter at a place is a witness of the polynomial at that place
  pub tracks_letter : (S : List (Polynomial E)) (v h : Polynomial E) (i : ℕ) → i < length (fs ++ S) → v ≡ get_or (fs ++ S) i [] → h ≡ letter_poly K i → Tracks S v h
  tracks_letter S v h i l ev eh =
      congruent_same K F O.places rs v (value K h (fs ++ S))
      (λ m. ap (λ p. coefficient K p m) ev ∙ (sym (value_letter K F (fs ++ S) i l m) ∙ ap (λ h. coefficient K (value K h (fs ++ S)) m) (sym eh)))

module _ {E : Type 0} (P : Presented E) (H : IsPresentation P) where
  open P use {field as K, order as O, ideal as rs, generators as fs}
  open H use {field as F}

  sum_poly : (ws : List (Multiple E)) → AreMultiples K O.places rs ws → IsPoly K O.places (sum_of K ws)
  sum_poly [] h = tt
  sum_poly (w ∷ ws) h =
      IsPoly-append K F O.places (times K w.by w.of) (sum_of K ws) (IsPoly-times K F O.places w.by w.of h.0 (generator_of K O rs H.ideal w.of h.1).poly) (sum_poly ws h.2)

  -- c - (c - d) is d
  back : (c d : E) → IsValue K d → K.plus c (K.negate (K.plus c (K.negate d))) ≡ d
  back c d v =
      ap (K.plus c) (negate-plus K F c (K.negate d) ∙ ap (K.plus (K.negate c)) (negate-negate K F d ∙ v)) ∙
      (sym (F.plus_assoc c (K.negate c) d) ∙ (ap (λ x. K.plus x d) (F.plus_negate c) ∙ (zero-plus K F d ∙ v)))

  -- products of congruent polynomials are congruent, if two of them are polynomials in the places
  congruent_product : (a b c d : Polynomial E) → IsPoly K O.places a → IsPoly K O.places c → Congruent K O.places rs a b → Congruent K O.places rs c d →
      Congruent K O.places rs (times K a c) (times K b d)
  congruent_product a b c d ha hc h k =
      let s = sum_of K k.parts in
      let same : Same K (minus K c s) d = λ m.
      coefficient-minus K F c s m ∙
      (ap (λ x. K.plus (coefficient K c m) (K.negate x)) (sym (k.sums m) ∙ coefficient-minus K F c d m) ∙ back (coefficient K c m) (coefficient K d m) (coefficient_value K F d m)) in
      congruent_trans K F O.places rs (times K a c) (times K b (minus K c s)) (times K b d)
      (congruent_times K F O.places rs a b c (minus K c s) ha (minus_poly K F O.places c s hc (sum_poly k.parts k.multiples)) h
      (congruent_trans K F O.places rs c d (minus K c s) k (congruent_same K F O.places rs d (minus K c s) (λ m. sym (same m)))))
      (congruent_same K F O.places rs (times K b (minus K c s)) (times K b d) (times_same K F b b (minus K c s) d (λ m. refl) same))

  pub tracks_product : (S : List (Polynomial E)) (v h u k w l : Polynomial E) → IsPoly K O.places v → IsPoly K O.places u →
      Same K w (times K v u) → Same K l (times K h k) → Tracks P F S v h → Tracks P F S u k → Tracks P F S w l
  tracks_product S v h u k w l pv pu sv sh a b =
      tracks_same P F S (times K v u) (times K h k) w l sv sh
      (congruent_trans K F O.places rs (times K v u) (times K (value K h (fs ++ S)) (value K k (fs ++ S))) (value K (times K h k) (fs ++ S))
      (congruent_product v (value K h (fs ++ S)) u (value K k (fs ++ S)) pv pu a b)
      (congruent_same K F O.places rs (times K (value K h (fs ++ S)) (value K k (fs ++ S))) (value K (times K h k) (fs ++ S))
      (λ m. sym (value-times K F h k (fs ++ S) m))))

module _ {E : Type 0} (K : FieldOps E) (F : IsField K) (O : MonomialOrder) where
  pub graded_sum : (d : ℕ) (p q r : Polynomial E) → Same K r (p ++ q) → IsGraded K O d p → IsGraded K O d q → IsGraded K O d r
  graded_sum d p q r s hp hq m n = ⊎_elim (hp m) (hq m) (append_nonzero K F p q m (λ z. n (s m ∙ z)))

  pub graded_multiple : (d : ℕ) (c : E) (p r : Polynomial E) → ((m : Exponents) → coefficient K r m ≡ K.times c (coefficient K p m)) → IsGraded K O d p → IsGraded K O d r
  graded_multiple d c p r s hp m n = hp m (λ z. n (s m ∙ (ap (K.times c) z ∙ times-zero K F c)))

  pub graded_product : IsMonomialOrder O → (d e : ℕ) (p q r : Polynomial E) → IsPoly K O.places p → IsPoly K O.places q → Same K r (times K p q) → IsGraded K O d p → IsGraded K O e q → IsGraded K O (d + e) r
  graded_product L d e p q r ip iq s hp hq m n = graded_times K F O L p q d e ip iq hp hq m (λ z. n (s m ∙ z))
